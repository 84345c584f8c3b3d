use Rattle.fak_count.proofs.Common.{rules}
use Rattle.fak_count.proofs.rooms.port.RoomPort.held.Goals as goal

pub returns : goal.returns
returns c = search rules
