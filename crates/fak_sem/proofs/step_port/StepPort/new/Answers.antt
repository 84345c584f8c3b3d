use Rattle.fak_sem.proofs.Common.{rules}
use Rattle.fak_sem.proofs.step_port.StepPort.new.Goals as goal

pub returns-clause-seat : goal.returns-clause-seat
returns-clause-seat g c = search rules
