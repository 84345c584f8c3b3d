-- The words of a queue's table.
use Rattle.std.specs.Prelude.{◌≡◌, ◌↔◌, ℕ, ◌+◌, ◌<◌, ◌≤◌, IsTrue, Bool, true, false, List, length, slice_index, ℤ, pos, ◌+ℤ◌, Result, Ok, Err}
use Rattle.fak_model.specs.Words.{bias}
use Rattle.fak_queue.specs.declared.found.NoRoom.{NoRoom}
use Rattle.fak_queue.specs.declared.found.NoRoom.TheVariants.{Full, Shut}
use Rattle.fak_queue.specs.declared.in_use.InUse.{InUse}

-- the bit that a shut queue has in the word of its upper count: 2^63
abbrev pub shut_bit : ℕ
shut_bit = 9223372036854775808

abbrev pub shut_part : Bool → ℕ
shut_part true = 9223372036854775808
shut_part false = 0

-- the indices of the counts, the ticket counters and the turns of the cells
abbrev pub upper_word : ℕ
upper_word = 16

abbrev pub lower_word : ℕ
lower_word = 32

abbrev pub draws_in_word : ℕ
draws_in_word = 48

abbrev pub draws_out_word : ℕ
draws_out_word = 64

abbrev pub first_turn : ℕ
first_turn = 80

-- sixteen words, then the counts and the ticket counters, sixteen words apart, the turns of the cells, and sixteen words
pub record AreWords (size : ℕ) (upper lower : ℤ) (draws_in draws_out : ℕ) (turn : ℕ → ℕ) (shut : Bool) (words : List ℕ) : Type 0 where
  pub wide : length words ≡ 96 + size
  pub upper_is : pos (slice_index words upper_word) ≡ pos (shut_part shut + bias) +ℤ upper
  pub lower_is : pos (slice_index words lower_word) ≡ pos bias +ℤ lower
  pub draws_in_is : slice_index words draws_in_word ≡ draws_in
  pub draws_out_is : slice_index words draws_out_word ≡ draws_out
  pub turns_are : (c : ℕ) → c < size → slice_index words (first_turn + c) ≡ turn c

-- whether there is room for an insertion, or why not
abbrev pub UpperCount : Type 0
UpperCount = Result (Unit {0}) NoRoom

-- whether there is an item for a deletion, or the lower count
abbrev pub LowerCount : Type 0
LowerCount = Result (Unit {0}) ℤ

-- what a word of the upper count says, in a queue of this size
abbrev pub IsUpperCount : ℕ → ℕ → UpperCount → Type 0
IsUpperCount size found (Ok room) = found < bias + size
IsUpperCount size found (Err (Full n)) = (bias + size ≤ found) × (found < shut_bit) × (pos found ≡ pos bias +ℤ n)
IsUpperCount size found (Err Shut) = shut_bit ≤ found

-- what a word of the lower count says
abbrev pub IsLowerCount : ℕ → LowerCount → Type 0
IsLowerCount found (Ok stock) = bias < found
IsLowerCount found (Err n) = (found ≤ bias) × (pos found ≡ pos bias +ℤ n)

-- what a word of the upper count says to an observer
pub record IsInUse (found : ℕ) (u : InUse) : Type 0 where
  pub shut : IsTrue u.is_shut ↔ (shut_bit ≤ found)
  pub count : pos found ≡ pos (shut_part u.is_shut + bias) +ℤ u.count
