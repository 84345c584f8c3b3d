use Rattle.fak_sem.proofs.Common.{rules}
use Rattle.fak_sem.proofs.port.SemPort.up.Goals as goal

pub returns-clause-call : goal.returns-clause-call
returns-clause-call g c = search rules

pub returns-clause-counts : goal.returns-clause-counts
returns-clause-counts g c = search rules
