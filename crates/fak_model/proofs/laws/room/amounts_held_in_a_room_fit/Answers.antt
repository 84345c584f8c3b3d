use Rattle.fak_model.proofs.RoomLaw.{room_fits}
use Rattle.fak_model.proofs.laws.room.amounts_held_in_a_room_fit.Goals as goal

pub returns : goal.returns
returns c = room_fits
