use Rattle.fak_sem.proofs.Common.{rules}
use Rattle.fak_sem.proofs.step_port.StepPort.into_seat.Goals as goal

pub returns-in-Idle-clause-seat : goal.returns-in-Idle-clause-seat
returns-in-Idle-clause-seat g c = search rules
