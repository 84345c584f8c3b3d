-- Looks for sleepers: which words of bits are still to be loaded, and how a look covers what an end owes.
use Rattle.std.specs.Prelude.{◌≡◌, ◌⊎◌, ℕ, ◌+◌, ◌*◌, ◌-◌, ◌/◌, ◌%◌, ◌<◌, ◌≤◌, true, false, if◌then◌else◌, nat_lt, Option, Some, None, IfSome}
use Rattle.fak_model.specs.Limits.{large_seats}
use Rattle.fak_channel_core.specs.SleeperSides.{Duty, has_bit}
use Rattle.fak_channel.specs.declared.standing.Looks.{Looks}

-- the words of the bits of this many ends
abbrev pub words_of : ℕ → ℕ
words_of ends = (ends + 63) / 64

-- the word that the next load is of
abbrev pub word_at : Looks → ℕ
word_at l = l.from / 64

-- this word is one of those still to be loaded: they begin with the next one, and go on at word 0 after the last
abbrev pub IsToPass : ℕ → Looks → ℕ → Type 0
IsToPass words l v = ((word_at l ≤ v) × (v < word_at l + l.left)) ⊎ (v + words < word_at l + l.left)

-- the number after this one, among these numbers in a circle
abbrev pub next_in : ℕ → ℕ → ℕ
next_in count k = if nat_lt (k + 1) count then k + 1 else 0

-- no look is owed, and the first one will begin at end 0
abbrev pub fresh_looks : Looks
fresh_looks = record { is_owed = false; from = 0; left = 0; found = None }

-- one look is owed, which begins with all words still to be loaded
abbrev pub owing : ℕ → Looks → Looks
owing ends l = record l { is_owed = true; left = words_of ends }

-- no bit of the word was set: the look is done if this was the last
abbrev pub past_word : ℕ → Looks → Looks
past_word ends l = record l { is_owed = nat_lt 1 l.left; from = 64 * next_in (words_of ends) (word_at l); left = l.left - 1 }

-- the word's set bits are all of ends before the one from which on the look goes: it goes on with the next word
abbrev pub past_bits : ℕ → Looks → Looks
past_bits ends l = record l { from = 64 * next_in (words_of ends) (word_at l); left = words_of ends }

-- the bit of end k was found set
abbrev pub finding : ℕ → Looks → Looks
finding k l = record l { found = Some k }

-- another end has cleared that bit: the look is tried again
abbrev pub retrying : Looks → Looks
retrying l = record l { found = None }

-- end k was woken: the look is done, and the next one begins behind that end
abbrev pub done_at : ℕ → ℕ → Looks → Looks
done_at ends k l = record l { is_owed = false; from = next_in ends k; found = None }

-- the look pays what the end owes on this side
pub record Covers (ends : ℕ) (l : Looks) (g : Duty) : Type 0 where
  pub few : g.looks ≤ 1
  pub owed : l.is_owed ≡ false → g.looks ≡ 0
  pub from : l.from < 64 * words_of ends
  pub left : l.left ≤ words_of ends
  pub found : IfSome l.found (λ k. k < large_seats)
  pub passed : l.is_owed ≡ true → (v : ℕ) → v < words_of ends → (IsToPass (words_of ends) l v → ⊥) → g.passed v ≡ true

-- an end whose bit is set in the word that the look has loaded, from the one on from which it goes; or there is none, and it
-- began within the word
abbrev pub IsFoundAt : ℕ → Looks → Option ℕ → Type 0
IsFoundAt word l None = (0 < l.from % 64) × ((j : ℕ) → l.from % 64 ≤ j → has_bit word j ≡ false)
IsFoundAt word l (Some k) = (k / 64 ≡ word_at l) × (l.from ≤ k) × (has_bit word (k % 64) ≡ true)
