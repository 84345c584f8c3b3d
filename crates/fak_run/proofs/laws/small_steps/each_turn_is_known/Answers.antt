use Rattle.fak_run.proofs.Common.{arith, common_steps}
use Rattle.fak_run.proofs.laws.small_steps.each_turn_is_known.Goals as goal

pub returns : goal.returns
returns c = grind (arith, common_steps)
