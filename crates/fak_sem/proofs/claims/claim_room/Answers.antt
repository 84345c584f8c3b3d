use Rattle.fak_sem.proofs.Common.{rules}
use Rattle.fak_sem.proofs.claims.claim_room.Goals as goal

pub returns-in-Err-Closed-clause-stands : goal.returns-in-Err-Closed-clause-stands
returns-in-Err-Closed-clause-stands g c = search rules

pub returns-in-Err-Closed-clause-call : goal.returns-in-Err-Closed-clause-call
returns-in-Err-Closed-clause-call g c = search rules
