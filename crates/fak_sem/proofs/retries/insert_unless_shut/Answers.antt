use Rattle.fak_sem.proofs.Common.{rules}
use Rattle.fak_sem.proofs.retries.insert_unless_shut.Goals as goal

pub returns-in-Err-Closed-clause-call : goal.returns-in-Err-Closed-clause-call
returns-in-Err-Closed-clause-call g c = search rules
