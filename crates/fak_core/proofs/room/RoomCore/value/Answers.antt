use Rattle.fak_core.proofs.Common.{reverse, arith, value, common_steps}
use Rattle.fak_core.proofs.RoomCalls.{sound_kept}
use Rattle.fak_core.proofs.room.RoomCore.value.Goals as goal

pub returns-clause-value : goal.returns-clause-value
returns-clause-value c = grind (arith, common_steps, value, reverse, sound_kept)
