use Rattle.fak_core.proofs.Common.{subst, reverse-reverse, IsRoomHistory}
use Rattle.fak_core.proofs.RoomCalls.{sound_kept}
use Rattle.fak_core.proofs.room.RoomCore.marks.Goals as goal

pub returns-clause-lawful : goal.returns-clause-lawful
returns-clause-lawful c = rw (← c.self.view_is, c.deref.ensures.value) (subst (IsRoomHistory c.self.inside.bound) (reverse-reverse c.self.inside.marks.items) (sound_kept _ c.self.invariant).history)
