use Rattle.fak_sem.proofs.Common.{rules}
use Rattle.fak_sem.proofs.step_port.StepPort.left.Goals as goal

pub returns : goal.returns
returns g c = search rules
