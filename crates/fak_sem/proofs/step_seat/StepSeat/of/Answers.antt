use Rattle.fak_sem.proofs.Common.{rules}
use Rattle.fak_sem.proofs.step_seat.StepSeat.of.Goals as goal

pub invariant_of-result : goal.invariant_of-result
invariant_of-result g c = search rules

pub returns-clause-idle : goal.returns-clause-idle
returns-clause-idle g c = search rules
