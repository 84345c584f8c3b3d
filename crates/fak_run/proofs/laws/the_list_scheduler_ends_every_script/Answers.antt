use Rattle.fak_run.proofs.SchedulerEnds.{ends}
use Rattle.fak_run.proofs.laws.the_list_scheduler_ends_every_script.Goals as goal

pub returns : goal.returns
returns c = ends
