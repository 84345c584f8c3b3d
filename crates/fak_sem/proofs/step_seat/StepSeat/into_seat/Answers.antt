use Rattle.fak_sem.proofs.Common.{rules}
use Rattle.fak_sem.proofs.step_seat.StepSeat.into_seat.Goals as goal

pub invariant_of-result : goal.invariant_of-result
invariant_of-result g c = search rules

pub returns : goal.returns
returns g c = search rules
