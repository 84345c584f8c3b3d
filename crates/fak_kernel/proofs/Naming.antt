-- Seats are joined in the order of their names.
use Rattle.fak_kernel.proofs.Common.{◌≡◌, ℕ, suc, false, List, [], ◌∷◌, ◌++◌, sym, ◌∙◌, arith, inl, inr, JoinedTo, in_left, in_right, in_either, is_in_is}
use Rattle.std.proofs.lemmas.Bool.{false_from_ne_true}
use Rattle.fak_model.specs.Seats.{is_in, IsWhole}
use Rattle.fak_model.proofs.Deciding.{same_or_not}

pub first_joined : (name : ℕ) → name ≡ 0 → JoinedTo 1 (name ∷ [])
first_joined name e = record {
  has = λ n below. inl (omega arith);
  below = λ n i. elim i [ inl is ↦ omega (arith, is, e) | inr none ↦ absurd none ];
}

pub next_joined : (k name : ℕ) (names : List ℕ) → JoinedTo k names → name ≡ k → JoinedTo (suc k) (names ++ name ∷ [])
next_joined k name names j e = record {
  has = λ n below. elim (same_or_not n k) [
    | inl is ↦ in_right n names (name ∷ []) (inl (is ∙ sym e))
    | inr other ↦ in_left n names (name ∷ []) (j.has n (omega arith))
  ];
  below = λ n i. elim (in_either n names (name ∷ []) i) [
    | inl old ↦ omega (arith, j.below n old)
    | inr new ↦ elim new [ inl is ↦ omega (arith, is, e) | inr none ↦ absurd none ]
  ];
}

pub is_new : (k name : ℕ) (names : List ℕ) → JoinedTo k names → name ≡ k → is_in name names ≡ false
is_new k name names j e = false_from_ne_true (is_in name names) (λ there. omega (arith, j.below name (is_in_is name names there), e))

pub is_whole : (k : ℕ) (names : List ℕ) → JoinedTo k names → IsWhole k names
is_whole k names j = j.has
