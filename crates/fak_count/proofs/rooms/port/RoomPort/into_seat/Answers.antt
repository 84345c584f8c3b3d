use Rattle.fak_count.proofs.Common.{rules}
use Rattle.fak_count.proofs.rooms.port.RoomPort.into_seat.Goals as goal

pub returns-clause-seat : goal.returns-clause-seat
returns-clause-seat c = search rules
