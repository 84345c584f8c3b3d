-- The text of a journal, line by line.
use Rattle.std.proofs.lemmas.Grind.{common_steps}
use Rattle.std.proofs.Common.{arith}
use Rattle.fak_text.specs.declared.steps.Note.{Note}
use Rattle.fak_text.proofs.Common.{NoteOf, said, yielded, downed, upped, opened, closed, statted, spawned, no_birth, no_slot, shut_down, note_of, ◌≡◌, ℕ, ◌+◌, ◌<◌, List, [], ◌∷◌, ◌++◌, map, codes, take, get_or, length, decimal, refl, flat_map, map-append, take_more, flat_map-append, text_of_name, child_prefix, text_of_note, journal_line, text_of_journal}
use Rattle.fak_text.proofs.NameText.{text_of_name_push}

-- two ways to write a child's name that are the same give the same line
text_of_note-same : (f g : ℕ → List ℕ) → ((j : ℕ) → f j ≡ g j) → (note : NoteOf) → text_of_note f note ≡ text_of_note g note
text_of_note-same f g same (said text) = refl
text_of_note-same f g same yielded = refl
text_of_note-same f g same (downed s) = refl
text_of_note-same f g same (upped s) = refl
text_of_note-same f g same (opened n entry) = refl
text_of_note-same f g same (closed n entry) = refl
text_of_note-same f g same (statted n uses) = refl
text_of_note-same f g same (spawned j) = rw (same j) refl
text_of_note-same f g same no_birth = refl
text_of_note-same f g same no_slot = refl
text_of_note-same f g same shut_down = refl

-- the journal with one note more
pub text_of_journal-take : (name : List ℕ) (notes : List Note) (i : ℕ) (note : Note) (child_name : ℕ → List ℕ) → i < length notes → note ≡ get_or notes i note
    → ((j : ℕ) → child_name j ≡ text_of_name (name ++ j ∷ []))
    → text_of_journal name (map note_of (take (i + 1) notes)) ≡ text_of_journal name (map note_of (take i notes)) ++ (codes "  " ++ text_of_note child_name (note_of note) ++ codes "\n")
text_of_journal-take name notes i note child_name lt is same = grind (arith, common_steps, journal_line, text_of_name, take, take_more, map, note_of, map-append, flat_map, flat_map-append, text_of_note-same)

-- a line is appended to a journal: two spaces, the note's text, and a newline
pub line_appended : (name old : List ℕ) (notes : List Note) (i : ℕ) (note : Note) (before indented noted new : List ℕ) → i < length notes → note ≡ get_or notes i note
    → before ≡ old ++ text_of_journal name (map note_of (take i notes)) → indented ≡ before ++ codes "  "
    → noted ≡ indented ++ text_of_note (λ j. child_prefix name ++ decimal j) (note_of note) → new ≡ noted ++ codes "\n"
    → new ≡ old ++ text_of_journal name (map note_of (take (i + 1) notes))
line_appended name old notes i note before indented noted new lt is so_far spaces text newline = grind (arith, common_steps, child_prefix, decimal, text_of_note, note_of, text_of_journal, map, take, text_of_journal-take, text_of_name_push, codes)
