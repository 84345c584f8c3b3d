-- Lists of file lines that replay: each line has the result that the rules of a file table give on the entries before
-- it.
use Rattle.std.specs.Prelude.{◌≡◌, List, [], ◌∷◌}
use Rattle.fak_model.specs.declared.file.FileEntry.{FileEntry}
use Rattle.fak_text.specs.Journal.{NoteOf, opened, closed, statted}
use Rattle.fak_run.specs.Files.{open_change, close_change, uses_of}

-- the line has the result that the rules give on these entries, and they change to those
abbrev pub Steps : List FileEntry → NoteOf → List FileEntry → Type 0
Steps entries (opened inode entry) after = open_change entries inode ≡ record { entry = entry; entries = after }
Steps entries (closed inode entry) after = close_change entries inode ≡ record { entry = entry; entries = after }
Steps entries (statted inode uses) after = (uses_of entries inode ≡ uses) × (after ≡ entries)
Steps entries _ after = ⊥

-- the lines, one after the other from these entries on, have the results of the rules, and lead to those entries
abbrev pub Replays : List FileEntry → List NoteOf → List FileEntry → Type 0
Replays entries [] end = end ≡ entries
Replays entries (line ∷ lines) end = (after : List FileEntry) × Steps entries line after × Replays after lines end
