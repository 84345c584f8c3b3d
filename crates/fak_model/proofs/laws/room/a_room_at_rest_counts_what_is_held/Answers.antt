use Rattle.fak_model.proofs.RoomLaw.{room_rests}
use Rattle.fak_model.proofs.laws.room.a_room_at_rest_counts_what_is_held.Goals as goal

pub returns : goal.returns
returns c = room_rests
