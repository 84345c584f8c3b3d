-- The lists of all seats together.
use Rattle.fak_run.proofs.Common.{◌≡◌, ◌≢◌, ℕ, zero, suc, ◌+◌, ◌<◌, ◌≤◌, List, [], ◌∷◌, ◌++◌, refl, sym, subst, arith, inl, inr, IsPermutation, IsPermutation-refl, IsPermutation-trans, IsPermutation-append_right, IsPermutation-middle, same_or_not, gather_from}

pub gather_same : {A : Type 0} (f g : ℕ → List A) (first n : ℕ) → ((s : ℕ) → first ≤ s → s < first + n → f s ≡ g s) → gather_from f first n ≡ gather_from g first n
gather_same f g first zero same = refl
gather_same f g first (suc n) same =
    let one : f first ≡ g first = same first (omega arith) (omega arith) in
    let rest : gather_from f (suc first) n ≡ gather_from g (suc first) n = gather_same f g (suc first) n (λ s low high. same s (omega (arith, low)) (omega (arith, high))) in
    λ t. one t ++ rest t

pub gather_none : {A : Type 0} (f : ℕ → List A) (first n : ℕ) → ((s : ℕ) → s < first + n → f s ≡ []) → gather_from f first n ≡ []
gather_none f first zero none = refl
gather_none f first (suc n) none =
    let rest : gather_from f (suc first) n ≡ [] = gather_none f (suc first) n (λ s high. none s (omega (arith, high))) in
    (λ t. none first (omega arith) t ++ rest t)

-- the first element of one seat's list may be taken as the first of all
pub gather_first : {A : Type 0} (f g : ℕ → List A) (x : A) (at first n : ℕ) → first ≤ at → at < first + n → f at ≡ x ∷ g at → ((s : ℕ) → s ≢ at → f s ≡ g s)
    → IsPermutation (gather_from f first n) (x ∷ gather_from g first n)
gather_first f g x at first zero low high is others = absurd (omega (arith, low, high))
gather_first {A} f g x at first (suc n) low high is others = elim (same_or_not at first) [
  | inl e ↦
      let here : f first ≡ x ∷ g first = subst (λ (s : ℕ). f s ≡ x ∷ g s) e is in
      let rest : gather_from f (suc first) n ≡ gather_from g (suc first) n = gather_same f g (suc first) n (λ s above below. others s (omega (arith, above, e))) in
      subst (λ (l : List A). IsPermutation l (x ∷ (g first ++ gather_from g (suc first) n))) (λ t. sym here t ++ sym rest t) (IsPermutation-refl (x ∷ (g first ++ gather_from g (suc first) n)))
  | inr ne ↦
      let later = gather_first f g x at (suc first) n (omega (arith, low, ne)) (omega (arith, high)) is others in
      let same : f first ≡ g first = others first (λ e. ne (sym e)) in
      let moved = IsPermutation-append_right (f first) (gather_from f (suc first) n) (x ∷ gather_from g (suc first) n) later in
      let moved' : IsPermutation (f first ++ gather_from f (suc first) n) (g first ++ x ∷ gather_from g (suc first) n) = subst (λ (l : List A). IsPermutation (f first ++ gather_from f (suc first) n) (l ++ x ∷ gather_from g (suc first) n)) same moved in
      IsPermutation-trans (f first ++ gather_from f (suc first) n) (g first ++ x ∷ gather_from g (suc first) n) (x ∷ (g first ++ gather_from g (suc first) n)) moved' (IsPermutation-middle (g first) x (gather_from g (suc first) n))
]
