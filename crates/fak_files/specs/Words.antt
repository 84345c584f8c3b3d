-- The words of a file table: the places of its count and of its fields.
use Rattle.std.specs.Prelude.{ℕ, ◌≡◌, ◌+◌, ◌*◌}
use Rattle.atomic_table.specs.Seated.{TableId}
use Rattle.fak_model.specs.declared.file.FileField.{FileField}
use Rattle.fak_model.specs.declared.file.FileField.TheVariants.{Inode, Uses}
use Rattle.fak_files.specs.declared.limits.FileLimits.{FileLimits}

-- the place of the count among the words, and that of the first field
abbrev pub count_place : ℕ
count_place = 16

abbrev pub fields_place : ℕ
fields_place = 32

-- the number of words for this many entries
abbrev pub width : ℕ → ℕ
width entries = fields_place + 2 * entries

-- the word of a field
abbrev pub offset_of : FileField → ℕ
offset_of Inode = 0
offset_of Uses = 1

abbrev pub word_of : ℕ → FileField → ℕ
word_of entry f = fields_place + 2 * entry + offset_of f

-- a seat's table is this one, it has this many words, and it was made with this key
abbrev pub FitsTable : TableId → TableId → FileLimits → FileLimits → Type 0
FitsTable of_seat table key made_with = (of_seat ≡ table) × (table.words ≡ width key.entries) × (key ≡ made_with)
