-- Lists that have the same weight under every weight of their elements.
use Rattle.fak_run.proofs.Common.{◌≡◌, ℕ, zero, suc, ◌+◌, ◌<◌, ◌≤◌, Bool, true, false, cond, List, [], ◌∷◌, length, get_or, refl, ap, sym, subst, arith, sum_by, remove, IsPermutation, IsPermutation-refl, IsPermutation-sym, IsPermutation-cons, IsPermutation-trans, IsPermutation-remove}
use Rattle.std.proofs.lemmas.List.{nil_from_length}
use Rattle.std.proofs.lemmas.List.Sums.{sum_by-cons, sum_by-remove}
use Rattle.fak_run.proofs.Sums.{sum_by-ones}

-- an element with a weight above 0
pub found : {A : Type 0} (test : A → Bool) (xs : List A) → 0 < sum_by (λ x. cond (test x) 1 0) xs → (i : ℕ) × (i < length xs) × ((d : A) → test (get_or xs i d) ≡ true)
found test [] some = absurd (omega arith)
found {A} test (x ∷ xs) some = by (test x) refl some (λ more. found test xs more) where
  by : (b : Bool) → test x ≡ b → 0 < sum_by (λ (y : A). cond (test y) 1 0) (x ∷ xs)
      → (0 < sum_by (λ (y : A). cond (test y) 1 0) xs → (i : ℕ) × (i < length xs) × ((d : A) → test (get_or xs i d) ≡ true))
      → (i : ℕ) × (i < length (x ∷ xs)) × ((d : A) → test (get_or (x ∷ xs) i d) ≡ true)
  by true is some later = (0, omega arith, λ d. is)
  by false is some later =
      let parts = sum_by-cons (λ (y : A). cond (test y) 1 0) x xs in
      let zero : ℕ = 0 in
      let here : cond (test x) 1 0 ≡ zero = rw is refl in
      let rest = later (omega (arith, parts, here, some)) in
      (suc rest.0, omega (arith, rest.1), λ d. rest.2 d)

-- two elements of a list weigh at most as much as the list
pub two_weigh : {A : Type 0} (f : A → ℕ) (xs : List A) (i j : ℕ) (d : A) → i < j → j < length xs → f (get_or xs i d) + f (get_or xs j d) ≤ sum_by f xs
two_weigh f [] i j d lt below = absurd (omega arith)
two_weigh f (x ∷ xs) i zero d lt below = absurd (omega arith)
two_weigh f (x ∷ xs) zero (suc j) d lt below = omega (arith, sum_by-cons f x xs, one_weighs f xs j d (omega arith))
  where
    one_weighs : {A : Type 0} (f : A → ℕ) (xs : List A) (j : ℕ) (d : A) → j < length xs → f (get_or xs j d) ≤ sum_by f xs
    one_weighs f [] j d below = absurd (omega arith)
    one_weighs f (x ∷ xs) zero d below = omega (arith, sum_by-cons f x xs)
    one_weighs f (x ∷ xs) (suc j) d below = omega (arith, sum_by-cons f x xs, one_weighs f xs j d (omega arith))
two_weigh f (x ∷ xs) (suc i) (suc j) d lt below = omega (arith, sum_by-cons f x xs, two_weigh f xs i j d (omega arith) (omega arith))

module _ {A : Type 0} (same : A → A → Bool) (same_is : (x y : A) → same x y ≡ true → x ≡ y) (is_same : (x : A) → same x x ≡ true) where
  -- they are permutations of each other
  pub permuted : (xs ys : List A) → ((f : A → ℕ) → sum_by f xs ≡ sum_by f ys) → IsPermutation xs ys
  permuted [] ys alike =
      let none : ys ≡ [] = nil_from_length ys (omega (arith, sum_by-ones ys, alike (λ y. 1))) in
      subst (IsPermutation []) (sym none) (IsPermutation-refl [])
  permuted (x ∷ xs) ys alike =
      let one : ℕ = 1 in
      let own : cond (same x x) 1 0 ≡ one = rw (is_same x) refl in
      let some : 0 < sum_by (λ (y : A). cond (same y x) 1 0) ys = omega (arith, alike (λ (y : A). cond (same y x) 1 0), sum_by-cons (λ (y : A). cond (same y x) 1 0) x xs, own) in
      let at = found (λ y. same y x) ys some in
      let is : get_or ys at.0 x ≡ x = same_is (get_or ys at.0 x) x (at.2 x) in
      let rest = permuted xs (remove ys at.0) (λ f. omega (arith, alike f, sum_by-cons f x xs, sum_by-remove f ys at.0 x at.1, ap f is)) in
      IsPermutation-trans (x ∷ xs) (x ∷ remove ys at.0) ys (IsPermutation-cons x xs (remove ys at.0) rest) (IsPermutation-sym ys (x ∷ remove ys at.0) (IsPermutation-remove ys at.0 x at.1 (sym is)))
