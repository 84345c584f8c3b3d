use Rattle.fak_text.proofs.Common.{text_of_journal, note_of, ◌≡◌, ◌++◌, map, take, string_bytes}
use Rattle.fak_text.proofs.text.journal.append_journal.Given as goal

abbrev pub invariant-loop-note : goal.invariant-loop-note
invariant-loop-note l = string_bytes l.text ≡ string_bytes l.initial.text ++ text_of_journal l.name (map note_of (take l.note-index l.notes))
