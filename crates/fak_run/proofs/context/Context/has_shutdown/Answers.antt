use Rattle.fak_run.proofs.Common.{ap, sym, ◌∙◌, map, nat_lt, steps_of, note_of}
use Rattle.fak_run.proofs.AnyWeighs.{any_notes}
use Rattle.fak_run.proofs.Told.{shuts-told_notes}
use Rattle.fak_run.proofs.context.Context.has_shutdown.Goals as goal

pub returns : goal.returns
returns g c =
    rw (← c.self.view_is) (any_notes c.has_shutdown_note.ensures c.as_slice.ensures.value ∙ ap (nat_lt 0) (sym (shuts-told_notes (steps_of g.K.Run.script c.self.inside.program) (map note_of c.self.inside.journal.items))))
