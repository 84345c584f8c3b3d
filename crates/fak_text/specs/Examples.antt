-- Lines and journals whose texts are known, one for each part of a definition.
use Rattle.std.specs.Prelude.{◌≡◌, ℕ, ℤ, List, [], ◌∷◌, ◌++◌, map, Option, Some}
use Rattle.fak_model.specs.declared.queue.Kind.{Kind}
use Rattle.fak_model.specs.declared.room.RoomKind.{RoomKind}
use Rattle.fak_core.specs.declared.fault.CoreFault.{CoreFault}
use Rattle.fak_core.specs.declared.line.CoreMove.{CoreMove}
use Rattle.fak_core.specs.declared.line.LineMark.{LineMark}
use Rattle.fak_core.specs.declared.line.LineMark.TheVariants as marks
use Rattle.fak_text.specs.Journal.{NoteOf}
use Rattle.fak_text.specs.JournalText.{journal_line, text_of_name}
use Rattle.fak_text.specs.LineText.{mark_or_dash, text_of_line, text_of_refusal}

-- the line of a step by this seat has this text
abbrev pub LineReads : ℕ → CoreMove → ℤ → Option LineMark → List ℕ → Type 0
LineReads seat step found mark text = text_of_line (record { seat = seat; step = step; found = found; mark = mark }) ≡ text

-- the refusal of this seat has this text
abbrev pub RefusalReads : ℕ → CoreFault → List ℕ → Type 0
RefusalReads seat fault text = text_of_refusal seat fault ≡ text

-- how lines show these marks of a room
abbrev pub room_marks : List RoomKind → List (List ℕ)
room_marks kinds = map (λ kind. mark_or_dash (Some (marks.Room kind))) kinds

-- how lines show these marks of a queue
abbrev pub queue_marks : List (Kind ℕ) → List (List ℕ)
queue_marks kinds = map (λ kind. mark_or_dash (Some (marks.Queue kind))) kinds

-- the line of a note in the journal of the process of this name has this text
abbrev pub NoteReads : List ℕ → NoteOf → List ℕ → Type 0
NoteReads name note text = journal_line (λ j. text_of_name (name ++ j ∷ [])) note ≡ text
