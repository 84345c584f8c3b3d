use Rattle.fak_run.proofs.Unending.{never_ends}
use Rattle.fak_run.proofs.laws.turns_without_steps_never_end.Goals as goal

pub returns : goal.returns
returns c = never_ends
