-- The texts of names and journals.
use Rattle.std.specs.Prelude.{ℕ, List, [], ◌∷◌, ◌++◌, map, codes, decimal, Option, Some, None}
use Rattle.std.specs.List.{flat_map, join_with_byte}
use Rattle.fak_text.specs.Journal.{NoteOf, said, yielded, downed, upped, opened, closed, statted, spawned, no_birth, no_slot, shut_down}

-- the numbers of a process's name, joined by dots
abbrev pub text_of_name : List ℕ → List ℕ
text_of_name name = join_with_byte 46 (map decimal name)

-- what the names of a process's children begin with
abbrev pub child_prefix : List ℕ → List ℕ
child_prefix name = flat_map (λ n. decimal n ++ codes ".") name

abbrev pub opened_text : Option ℕ → List ℕ
opened_text None = codes " no-entry"
opened_text (Some i) = codes " entry " ++ decimal i

abbrev pub closed_text : Option ℕ → List ℕ
closed_text None = codes " none"
closed_text (Some i) = codes " entry " ++ decimal i

abbrev pub uses_text : Option ℕ → List ℕ
uses_text None = codes " none"
uses_text (Some u) = codes " uses " ++ decimal u

-- the line of a note, if the name of a child with this number has this text
abbrev pub text_of_note : (ℕ → List ℕ) → NoteOf → List ℕ
text_of_note child_name (said text) = codes "say " ++ text
text_of_note child_name yielded = codes "yield"
text_of_note child_name (downed s) = codes "down " ++ decimal s
text_of_note child_name (upped s) = codes "up " ++ decimal s
text_of_note child_name (opened n entry) = codes "open " ++ decimal n ++ opened_text entry
text_of_note child_name (closed n entry) = codes "close " ++ decimal n ++ closed_text entry
text_of_note child_name (statted n uses) = codes "stat " ++ decimal n ++ uses_text uses
text_of_note child_name (spawned j) = codes "spawn " ++ child_name j
text_of_note child_name no_birth = codes "spawn no-birth"
text_of_note child_name no_slot = codes "spawn no-slot"
text_of_note child_name shut_down = codes "shutdown"

-- the note's line in the journal: two spaces before it, a newline after it
abbrev pub journal_line : (ℕ → List ℕ) → NoteOf → List ℕ
journal_line child_name note = codes "  " ++ text_of_note child_name note ++ codes "\n"

-- the journal of the process of this name: a line for each note; a child's name is the process's and its number
abbrev pub text_of_journal : List ℕ → List NoteOf → List ℕ
text_of_journal name notes = flat_map (journal_line (λ j. text_of_name (name ++ j ∷ []))) notes
