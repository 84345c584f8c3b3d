use Rattle.fak_core.proofs.RoomKept.{schedule_kept}
use Rattle.fak_core.proofs.laws.room.every_room_schedule_keeps_what_is_held.Goals as goal

pub returns : goal.returns
returns c = λ bound seats es i seat range is. ((schedule_kept bound seats es range).seats i seat is).holds
