use Rattle.fak_model.specs.Room.{IsRoomHistory}
use Rattle.fak_core.proofs.Common.{history_of, opening, run, subst}
use Rattle.fak_core.proofs.RoomKept.{schedule_kept}
use Rattle.fak_core.proofs.RoomReached.{schedule_bound}
use Rattle.fak_core.proofs.laws.room.every_room_schedule_is_lawful.Goals as goal

pub returns : goal.returns
returns c = λ bound seats es range. subst (λ b. IsRoomHistory b (history_of (run es (opening bound seats)))) (schedule_bound bound seats es) (schedule_kept bound seats es range).history
