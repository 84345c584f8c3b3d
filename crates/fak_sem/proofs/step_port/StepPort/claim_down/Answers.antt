use Rattle.fak_sem.proofs.Common.{rules}
use Rattle.fak_sem.proofs.step_port.StepPort.claim_down.Goals as goal

pub returns-in-Ok-clause-state : goal.returns-in-Ok-clause-state
returns-in-Ok-clause-state g c = search rules

pub returns-in-Ok-clause-call : goal.returns-in-Ok-clause-call
returns-in-Ok-clause-call g c = search rules

pub returns-in-Ok-clause-claims : goal.returns-in-Ok-clause-claims
returns-in-Ok-clause-claims g c = search rules

pub returns-in-Ok-clause-counts : goal.returns-in-Ok-clause-counts
returns-in-Ok-clause-counts g c = search rules

pub returns-in-Parking : goal.returns-in-Parking
returns-in-Parking g c = search rules
