use Rattle.fak_queue.proofs.Common.{rules}
use Rattle.fak_queue.proofs.port.Port.insert.Goals as goal

pub returns-clause-call : goal.returns-clause-call
returns-clause-call g c = search rules
