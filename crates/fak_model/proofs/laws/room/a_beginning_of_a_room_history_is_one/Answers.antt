use Rattle.fak_model.proofs.Common.{room_rules}
use Rattle.fak_model.proofs.Appending.{history_prefix}
use Rattle.fak_model.proofs.laws.room.a_beginning_of_a_room_history_is_one.Goals as goal

pub returns : goal.returns
returns c = λ bound h rest. history_prefix (room_rules bound) h rest
