use Rattle.fak_core.proofs.RoomKept.{schedule_kept}
use Rattle.fak_core.proofs.laws.room.every_room_schedule_counts_its_marks.Goals as goal

pub returns : goal.returns
returns c = λ bound seats es range. (schedule_kept bound seats es range).counted
