use Rattle.fak_run.proofs.Common.{arith, common_steps}
use Rattle.fak_run.proofs.laws.small_steps.only_a_yield_ends_a_turn_early.Goals as goal

pub returns : goal.returns
returns c = grind (arith, common_steps)
