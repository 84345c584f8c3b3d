-- The bits of idle ends: a write to one word changes the bit of one end.
use Rattle.std.proofs.Common.{◌≡◌, ◌≢◌, ℕ, ◌+◌, ◌*◌, ◌/◌, ◌%◌, ◌<◌, List, length, set, arith, ap, sym, ◌∙◌, subst, get_or-set_same, get_or-set_other, bit_or, inl, inr}
use Rattle.std.specs.Prelude.{slice_index, ◌^◌}
use Rattle.std.specs.Int.{bit_at, w64, bit_not}
use Rattle.std.specs.Int.Bits.{bit_and}
use Rattle.std.proofs.lemmas.Bool.{cases_eq, cases_lt}
use Rattle.std.proofs.lemmas.Nat.Bits.{bit_at-zero, bit_at_set_same, bit_at_set_other, bit_at_clear_same, bit_at_clear_other}
use Rattle.fak_handles.specs.channel.Lending.{IsLowest, bit_of}

module _ (words : List ℕ) (k w : ℕ) (inside : k / 64 < length words) where
  pub bit_here : bit_of (set words (k / 64) w) k ≡ bit_at w (k % 64)
  bit_here = ap (λ v. bit_at v (k % 64)) (get_or-set_same words (k / 64) w 0 inside)

  pub bit_else : ((i : ℕ) → i < 64 → i ≢ k % 64 → bit_at w i ≡ bit_at (slice_index words (k / 64)) i) → (j : ℕ) → j ≢ k → bit_of (set words (k / 64) w) j ≡ bit_of words j
  bit_else same j apart = elim (cases_eq (j / 64) (k / 64)) [
    | inl e ↦ (let other : j % 64 ≢ k % 64 = λ f. apart (omega (arith, e, f)) in
        let here : slice_index (set words (k / 64) w) (j / 64) ≡ w = subst (λ i. slice_index (set words (k / 64) w) i ≡ w) (sym e) (get_or-set_same words (k / 64) w 0 inside) in
        ap (λ v. bit_at v (j % 64)) here ∙ same (j % 64) (omega arith) other ∙ ap (λ i. bit_at (slice_index words i) (j % 64)) (sym e))
    | inr ne ↦ ap (λ v. bit_at v (j % 64)) (get_or-set_other words (k / 64) (j / 64) w 0 ne)
  ]

-- the words with the bit of end k set, or clear
module _ (words : List ℕ) (k : ℕ) (inside : k / 64 < length words) where
  abbrev found : ℕ
  found = slice_index words (k / 64)

  abbrev mask : ℕ
  mask = 1 * 2 ^ (k % 64) % 2 ^ 64

  pub set_here : bit_of (set words (k / 64) (bit_or found mask)) k ≡ 1
  set_here = bit_here words k _ inside ∙ bit_at_set_same w64 found (k % 64) (omega arith)

  pub set_else : (j : ℕ) → j ≢ k → bit_of (set words (k / 64) (bit_or found mask)) j ≡ bit_of words j
  set_else = bit_else words k _ inside (λ i low apart. bit_at_set_other w64 found (k % 64) (omega arith) i apart)

  pub clear_here : bit_of (set words (k / 64) (bit_and found (bit_not w64 mask))) k ≡ 0
  clear_here = bit_here words k _ inside ∙ bit_at_clear_same w64 found (k % 64) (omega arith)

  pub clear_else : (j : ℕ) → j ≢ k → bit_of (set words (k / 64) (bit_and found (bit_not w64 mask))) j ≡ bit_of words j
  clear_else = bit_else words k _ inside (λ i low apart. bit_at_clear_other w64 found (k % 64) (omega arith) i low apart)

-- in a word that is clear no bit is set
pub clear_word : (words : List ℕ) (k : ℕ) → slice_index words (k / 64) ≡ 0 → bit_of words k ≡ 1 → ⊥
clear_word words k none set = let zero : 0 ≡ 1 = sym (ap (λ w. bit_at w (k % 64)) none ∙ bit_at-zero (k % 64)) ∙ set in absurd (omega (arith, zero))

-- the words below number i are clear, and t is the place of the lowest bit of that word
module _ (words : List ℕ) (i t : ℕ) (clear : (j : ℕ) → j < i → slice_index words j ≡ 0) (is : IsLowest (slice_index words i) t) where
  pub lowest_set : bit_of words (64 * i + t) ≡ 1
  lowest_set =
      let small = is.small in
      let word : (64 * i + t) / 64 ≡ i = omega (arith, small) in
      let place : (64 * i + t) % 64 ≡ t = omega (arith, small) in
      (λ z. bit_at (slice_index words (word z)) (place z)) ∙ is.set

  pub none_below : (k : ℕ) → k < 64 * i + t → bit_of words k ≡ 1 → ⊥
  none_below k low set = elim (cases_lt (k / 64) i) [
    | inl lt ↦ clear_word words k (clear (k / 64) lt) set
    | inr ge ↦ (let small = is.small in
        let word : k / 64 ≡ i = omega (arith, low, ge, small) in
        let place : k % 64 < t = omega (arith, low, word) in
        let zero : bit_of words k ≡ 0 = ap (λ n. bit_at (slice_index words n) (k % 64)) word ∙ is.below (k % 64) place in
        absurd (omega (arith, zero, set)))
  ]
