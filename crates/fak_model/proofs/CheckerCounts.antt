-- What the checker has counted after one more mark.
use Rattle.fak_model.proofs.Common.{length-reverse, take-append-le, Kind, Got, Mark, count, puts, gots, upper_raise, upper_drop, lower_raise, lower_drop, ◌≡◌, ℕ, ◌+◌, ◌<◌, ◌≤◌, List, [], ◌∷◌, ◌++◌, length, take, reverse, arith, AreBelow, AreCounts, counts_with, common_steps}
use Rattle.fak_model.specs.declared.checker.counts.Counts.{Counts}
use Rattle.fak_model.proofs.QueueCounts.{count_few}
use Rattle.fak_model.proofs.Reversing.{reverse_push}

-- ---- each count grows by at most 1 for a mark

upper_raise_bit : (κ : Kind ℕ) → upper_raise κ ≤ 1
upper_raise_bit κ = grind (arith, common_steps, upper_raise)

upper_drop_bit : (κ : Kind ℕ) → upper_drop κ ≤ 1
upper_drop_bit κ = grind (arith, common_steps, upper_drop)

lower_raise_bit : (κ : Kind ℕ) → lower_raise κ ≤ 1
lower_raise_bit κ = grind (arith, common_steps, lower_raise)

-- no count is above the number of marks
pub counts_below : (h : List (Mark ℕ)) (c : Counts) (n : ℕ) → AreCounts h c → length h < n → AreBelow c n
counts_below h c n k l = grind (arith, common_steps, length-reverse, count_few, upper_raise, upper_raise_bit, reverse, upper_drop, upper_drop_bit, lower_raise, lower_raise_bit, lower_drop)

-- ---- each count after a mark

counts_with-upper_raises : (c : Counts) (κ : Kind ℕ) → (counts_with c κ).upper_raises ≡ upper_raise κ + c.upper_raises
counts_with-upper_raises c κ = grind (arith, common_steps, counts_with, upper_raise)

counts_with-upper_drops : (c : Counts) (κ : Kind ℕ) → (counts_with c κ).upper_drops ≡ upper_drop κ + c.upper_drops
counts_with-upper_drops c κ = grind (arith, common_steps, counts_with, upper_drop)

counts_with-lower_raises : (c : Counts) (κ : Kind ℕ) → (counts_with c κ).lower_raises ≡ lower_raise κ + c.lower_raises
counts_with-lower_raises c κ = grind (arith, common_steps, counts_with, lower_raise)

counts_with-lower_drops : (c : Counts) (κ : Kind ℕ) → (counts_with c κ).lower_drops ≡ lower_drop κ + c.lower_drops
counts_with-lower_drops c κ = grind (arith, common_steps, counts_with, lower_drop)

counts_with-oldest : (c : Counts) (κ : Kind ℕ) → (counts_with c κ).oldest ≡ c.oldest
counts_with-oldest c κ = grind (arith, common_steps, counts_with)

-- the counts after a mark, if o is the new index of the oldest item left
counts_push : (h : List (Mark ℕ)) (m : Mark ℕ) (c : Counts) (o : ℕ) → AreCounts h c → o ≤ length h + 1 → count puts (reverse (take o (h ++ m ∷ []))) ≡ gots m.kind + c.gots
    → AreCounts (h ++ m ∷ []) (record (counts_with c m.kind) { oldest = o })
counts_push h m c o k within is = grind (arith, common_steps, reverse_push, counts_with-upper_raises, count, upper_raise, counts_with-upper_drops, upper_drop, counts_with-lower_raises, lower_raise, counts_with-lower_drops, lower_drop)

not_got : (κ : Kind ℕ) → ((x : ℕ) → κ ≡ Got x → ⊥) → gots κ ≡ 0
not_got κ other = grind (arith, common_steps, gots)

-- a mark that is no Got leaves the index of the oldest item left as it was
pub counts_other : (h : List (Mark ℕ)) (m : Mark ℕ) (c : Counts) → AreCounts h c → ((x : ℕ) → m.kind ≡ Got x → ⊥) → AreCounts (h ++ m ∷ []) (counts_with c m.kind)
counts_other h m c k other = grind (arith, common_steps, take, take-append-le, counts_with-oldest, counts_push, counts_with, count, puts, reverse, not_got)
