-- How the words of a table keep a count.
use Rattle.std.specs.Prelude.{ℕ, ◌≡◌, ℤ, pos, ◌+ℤ◌, List, length, slice_index}
use Rattle.atomic_table.specs.Seated.{TableId}
use Rattle.fak_model.specs.Words.{bias}

-- the place of the count among the words, and the number of words
abbrev pub count_place : ℕ
count_place = 16

abbrev pub width : ℕ
width = 33

pub record KeepsCount (count : ℤ) (words : List ℕ) : Type 0 where
  pub wide : length words ≡ width
  pub count_is : pos (slice_index words count_place) ≡ pos bias +ℤ count

-- a seat's table is this one, it has this many words, and it was made with this key
abbrev pub FitsTable : {K : Type 0} → TableId → TableId → K → K → Type 0
FitsTable of_seat table key made_with = (of_seat ≡ table) × (table.words ≡ width) × (key ≡ made_with)
