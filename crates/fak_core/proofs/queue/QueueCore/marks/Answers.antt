use Rattle.fak_core.proofs.Common.{to_literal}
use Rattle.fak_core.proofs.QueueSound.{sound_kept}
use Rattle.fak_core.proofs.queue.QueueCore.marks.Goals as goal

pub returns-clause-legal : goal.returns-clause-legal
returns-clause-legal c = rw (← c.self.view_is, c.deref.ensures.value) (to_literal _ _ (sound_kept _ c.self.invariant.sound).legal)
