use Rattle.fak_sem.proofs.Common.{rules}
use Rattle.fak_sem.proofs.step_port.StepPort.try_wake.Goals as goal

pub returns-in-Waking-clause-state : goal.returns-in-Waking-clause-state
returns-in-Waking-clause-state g c = search rules

pub returns-in-Waking-clause-step : goal.returns-in-Waking-clause-step
returns-in-Waking-clause-step g c = search rules

pub returns-in-Waking-clause-call : goal.returns-in-Waking-clause-call
returns-in-Waking-clause-call g c = search rules

pub returns-in-Idle : goal.returns-in-Idle
returns-in-Idle g c = search rules
