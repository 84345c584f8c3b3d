use Rattle.fak_queue.proofs.Common.{rules}
use Rattle.fak_queue.proofs.parts.SeatParts.left.Goals as goal

pub returns : goal.returns
returns g c = search rules
