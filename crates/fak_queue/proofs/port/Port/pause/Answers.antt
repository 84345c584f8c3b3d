use Rattle.fak_queue.proofs.Common.{rules}
use Rattle.fak_queue.proofs.port.Port.pause.Goals as goal

pub returns-clause-seat : goal.returns-clause-seat
returns-clause-seat g c = search rules
