use Rattle.fak_sem.proofs.Common.{rules}
use Rattle.fak_sem.proofs.step_port.StepPort.try_park.Goals as goal

pub returns-in-Parking-clause-step : goal.returns-in-Parking-clause-step
returns-in-Parking-clause-step g c = search rules

pub returns-in-Idle : goal.returns-in-Idle
returns-in-Idle g c = search rules
