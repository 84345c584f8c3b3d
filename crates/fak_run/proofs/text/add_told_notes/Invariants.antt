use Rattle.fak_run.proofs.Common.{string_bytes, ◌≡◌, ◌++◌, map, drop, text_of_journal, note_of, steps_view, told_notes, iter_rest}
use Rattle.fak_run.proofs.text.add_told_notes.Given as goal

-- the text so far, followed by the text still to come
abbrev pub invariant-loop-note : goal.invariant-loop-note
invariant-loop-note l = string_bytes l.text ++ text_of_journal l.name (told_notes (steps_view (iter_rest l.steps)) (map note_of (drop l.note-index l.notes)))
    ≡ string_bytes l.fn.text ++ text_of_journal l.name (told_notes (steps_view l.fn.steps) (map note_of l.notes))
