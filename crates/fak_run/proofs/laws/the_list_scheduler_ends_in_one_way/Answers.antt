use Rattle.fak_run.proofs.Ends.{ends_alike}
use Rattle.fak_run.proofs.laws.the_list_scheduler_ends_in_one_way.Goals as goal

pub returns : goal.returns
returns c = ends_alike
