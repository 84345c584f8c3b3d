use Rattle.fak_core.proofs.Common.{common_steps, arith, length}
use Rattle.std.proofs.lemmas.Option.{slice_get_read}
use Rattle.fak_core.proofs.RoomCalls.{sound_kept}
use Rattle.fak_core.proofs.room.RoomCore.held.Goals as goal

pub returns : goal.returns
returns c = grind (arith, common_steps, length, sound_kept, slice_get_read)
