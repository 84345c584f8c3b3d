use Rattle.fak_core.proofs.Common.{arith, common_steps}
use Rattle.fak_core.proofs.laws.examples.the_seats_that_wait_are_judged.Goals as goal

pub returns-clause-waits : goal.returns-clause-waits
returns-clause-waits c = grind (arith, common_steps)
