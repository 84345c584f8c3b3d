-- The entries that words show.
use Rattle.std.specs.Prelude.{ℕ, List, slice_index}
use Rattle.fak_model.specs.declared.file.FileEntry.{FileEntry}
use Rattle.fak_model.specs.declared.file.FileField.TheVariants.{Inode, Uses}
use Rattle.fak_files.specs.Words.{word_of}

abbrev pub entry_in : List ℕ → ℕ → FileEntry
entry_in words entry = record { inode = slice_index words (word_of entry Inode); uses = slice_index words (word_of entry Uses) }
