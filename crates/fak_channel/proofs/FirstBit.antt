-- The first bit that is set in a word, from a given one on.
use Rattle.std.proofs.Common.{◌≡◌, ◌≢◌, ℕ, ◌+◌, ◌-◌, ◌/◌, ◌%◌, ◌^◌, ◌<◌, ◌≤◌, nat_eq, true, false, ap, sym, ◌∙◌, inl, inr, arith}
use Rattle.std.specs.Int.{bit_at, trailing_zeros, w64}
use Rattle.std.specs.Int.Count.{trailing_of_zero}
use Rattle.std.proofs.lemmas.Nat.{shr-shr}
use Rattle.std.proofs.lemmas.Nat.Bits.{bit_at-trailing_zeros, bit_at-zero, bit_at_above}
use Rattle.fak_model.proofs.Deciding.{same_or_not}
use Rattle.fak_channel_core.specs.SleeperSides.{has_bit}

-- bit j of a word that was moved down by k places
moved : (n k j : ℕ) → bit_at (n / 2 ^ k) j ≡ bit_at n (k + j)
moved n k j = ap (λ x. x % 2) (shr-shr n k j)

module _ (word k : ℕ) (small : word < 2 ^ 64) where
  abbrev rest : ℕ
  rest = word / 2 ^ k

  abbrev step : ℕ
  step = trailing_zeros w64 rest

  -- the lowest bit of what is left
  lowest : rest ≢ 0 → bit_at word (k + step) ≡ 1
  lowest some = sym (moved word k step) ∙ (bit_at-trailing_zeros w64 rest (omega (arith, some)) (omega arith)).1

  no_step : rest ≡ 0 → step ≡ 64
  no_step none = ap (trailing_zeros w64) none ∙ trailing_of_zero 64

  pub found_set : k + step < 64 → has_bit word (k + step) ≡ true
  found_set within = elim (same_or_not rest 0) [
    | inl none ↦ absurd (let far = no_step none in omega (arith, within, far))
    | inr some ↦ ap (λ d. nat_eq d 1) (lowest some)
  ]

  pub none_set : 64 ≤ k + step → (j : ℕ) → k ≤ j → has_bit word j ≡ false
  none_set beyond j from = elim (same_or_not rest 0) [
    | inl none ↦ (let is : k + (j - k) ≡ j = omega arith in
        ap (λ d. nat_eq d 1) (ap (bit_at word) (sym is) ∙ (sym (moved word k (j - k)) ∙ (ap (λ n. bit_at n (j - k)) none ∙ bit_at-zero (j - k)))))
    | inr some ↦ absurd (let one = lowest some in let zero = bit_at_above word 64 (k + step) small beyond in omega (arith, one, zero))
  ]

  -- a word with a bit has one from bit 0 on
  pub begun_within : word ≢ 0 → 64 ≤ k + step → 0 < k
  begun_within some beyond = elim (same_or_not k 0) [
    | inl zero ↦ absurd (let whole : rest ≡ word = ap (λ i. word / 2 ^ i) zero ∙ omega arith in
        let near = (bit_at-trailing_zeros w64 rest (omega (arith, some, whole)) (omega arith)).0 in omega (arith, near, beyond, zero))
    | inr later ↦ omega (arith, later)
  ]
