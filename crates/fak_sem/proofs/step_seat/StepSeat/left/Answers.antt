use Rattle.fak_sem.proofs.Common.{rules}
use Rattle.fak_sem.proofs.step_seat.StepSeat.left.Goals as goal

pub returns : goal.returns
returns g c = search rules
