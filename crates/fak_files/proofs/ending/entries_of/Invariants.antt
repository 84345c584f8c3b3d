use Rattle.fak_files.proofs.Common.{◌≡◌, ℕ, ◌<◌, length, slice_get, Some, entry_in, slots_items}
use Rattle.fak_files.proofs.ending.entries_of.Given as goal

-- the entries below this one were read
abbrev pub invariant-loop-i : goal.invariant-loop-i
invariant-loop-i l = (length l.entries ≡ 16) × ((j : ℕ) → j < l.i → slice_get l.entries j ≡ Some (entry_in (slots_items l.closed.words) j))
