use Rattle.fak_run.proofs.Common.{◌≡◌, ◌++◌, map, into_iter_items, told_notes, iter_rest}
use Rattle.fak_text.specs.Views.{note_of, steps_view}
use Rattle.fak_run.proofs.told_report.told_all.Given as goal

-- the notes so far, followed by those still to come
abbrev pub invariant-loop-note : goal.invariant-loop-note
invariant-loop-note l = map note_of l.full.items ++ told_notes (steps_view (iter_rest l.steps)) (map note_of (into_iter_items l.note-iterator))
    ≡ told_notes (steps_view l.fn.steps) (map note_of l.fn.notes.items)
