-- Two sorted lists of the same elements, without two elements of one name, are equal.
use Rattle.fak_run.proofs.Common.{◌≡◌, ℕ, zero, suc, ◌+◌, ◌<◌, ◌≤◌, Ordering, Equal, Bool, true, false, cond, List, [], ◌∷◌, length, get_or, refl, ap, sym, ◌∙◌, subst, arith, sum_by, IsSortedByKey, slice_cmp, nil_from_length, sum_by-cons, sorted_far, nat_list_cmp_total, ranks_by, common_steps}
use Rattle.std.specs.Ordering.{nat_cmp, is_lt, ordering_reverse}
use Rattle.std.proofs.lemmas.Map.Lookups.{exact_bytes}
use Rattle.fak_run.proofs.Sums.{sum_by-ones}
use Rattle.fak_run.proofs.Permuting.{found, two_weigh}
use Rattle.fak_run.proofs.Names.{same_name, same_name_self}

-- if neither name is less, they are equal
level : (r s : Ordering) → r ≡ ordering_reverse s → is_lt r ≡ false → is_lt s ≡ false → r ≡ Equal
level r s is a b = grind (arith, common_steps, ordering_reverse, is_lt)

tied : (x y : List ℕ) → is_lt (slice_cmp nat_cmp x y) ≡ false → is_lt (slice_cmp nat_cmp y x) ≡ false → x ≡ y
tied x y a b = exact_bytes x y (level (slice_cmp nat_cmp x y) (slice_cmp nat_cmp y x) (nat_list_cmp_total.antisymm x y) a b)

module _ {A : Type 0} (name : A → List ℕ) (same : A → A → Bool) (same_is : (x y : A) → same x y ≡ true → x ≡ y) (is_same : (x : A) → same x x ≡ true) where
  -- the place in the second list of the first element of the first list
  place_of_first : (x : A) (xs ys : List A) → ((f : A → ℕ) → sum_by f (x ∷ xs) ≡ sum_by f ys) → (i : ℕ) × (i < length ys) × (get_or ys i x ≡ x)
  place_of_first x xs ys alike =
      let one : ℕ = 1 in
      let own : cond (same x x) 1 0 ≡ one = rw (is_same x) refl in
      let some : 0 < sum_by (λ (y : A). cond (same y x) 1 0) ys = omega (arith, alike (λ (y : A). cond (same y x) 1 0), sum_by-cons (λ (y : A). cond (same y x) 1 0) x xs, own) in
      let at = found (λ y. same y x) ys some in
      (at.0, at.1, same_is (get_or ys at.0 x) x (at.2 x))

  not_below : (x : A) (xs : List A) (y : A) (ys : List A) → ((f : A → ℕ) → sum_by f (x ∷ xs) ≡ sum_by f (y ∷ ys)) → IsSortedByKey name (slice_cmp nat_cmp) (y ∷ ys)
      → is_lt (slice_cmp nat_cmp (name x) (name y)) ≡ false
  not_below x xs y ys alike sorted =
      let at = place_of_first x xs (y ∷ ys) alike in
      let far = sorted_far (λ a b. is_lt (slice_cmp nat_cmp (name a) (name b))) (ranks_by nat_list_cmp_total name) (y ∷ ys) sorted 0 at.0 x (omega arith) at.1 in
      subst (λ (a : A). is_lt (slice_cmp nat_cmp (name a) (name y)) ≡ false) at.2 far

  -- two elements with one name are one element
  first_is : (x y : A) (ys : List A) → name x ≡ name y → ((n : List ℕ) → sum_by (λ a. cond (same_name (name a) n) 1 0) (y ∷ ys) ≤ 1) → (i : ℕ) → i < length (y ∷ ys) → get_or (y ∷ ys) i x ≡ x → x ≡ y
  first_is x y ys names once zero below is = sym is
  first_is x y ys names once (suc i) below is =
      let one : ℕ = 1 in
      let two = two_weigh (λ (a : A). cond (same_name (name a) (name x)) 1 0) (y ∷ ys) 0 (suc i) x (omega arith) below in
      let own : cond (same_name (name x) (name x)) 1 0 ≡ one = ap (λ t. cond t 1 0) (same_name_self (name x)) in
      let front : cond (same_name (name y) (name x)) 1 0 ≡ one = ap (λ n. cond (same_name n (name x)) 1 0) (sym names) ∙ own in
      let behind : cond (same_name (name (get_or ys i x)) (name x)) 1 0 ≡ one = ap (λ a. cond (same_name (name a) (name x)) 1 0) is ∙ own in
      absurd (omega (arith, two, front, behind, once (name x)))

  heads : (x : A) (xs : List A) (y : A) (ys : List A) → ((f : A → ℕ) → sum_by f (x ∷ xs) ≡ sum_by f (y ∷ ys)) → IsSortedByKey name (slice_cmp nat_cmp) (x ∷ xs) → IsSortedByKey name (slice_cmp nat_cmp) (y ∷ ys)
      → ((n : List ℕ) → sum_by (λ a. cond (same_name (name a) n) 1 0) (y ∷ ys) ≤ 1) → x ≡ y
  heads x xs y ys alike up also_up once =
      let names = tied (name x) (name y) (not_below x xs y ys alike also_up) (not_below y ys x xs (λ f. sym (alike f)) up) in
      let at = place_of_first x xs (y ∷ ys) alike in
      first_is x y ys names once at.0 at.1 at.2

  rest_sorted : (x : A) (xs : List A) → IsSortedByKey name (slice_cmp nat_cmp) (x ∷ xs) → IsSortedByKey name (slice_cmp nat_cmp) xs
  rest_sorted x xs up k d low high =
      let next : suc k + 1 ≡ suc (k + 1) = omega arith in
      subst (λ (n : ℕ). is_lt (slice_cmp nat_cmp (name (get_or (x ∷ xs) n d)) (name (get_or xs k d))) ≡ false) next (up (suc k) d (omega arith) (omega (arith, high)))

  pub sorted_alike : (xs ys : List A) → ((f : A → ℕ) → sum_by f xs ≡ sum_by f ys) → IsSortedByKey name (slice_cmp nat_cmp) xs → IsSortedByKey name (slice_cmp nat_cmp) ys
      → ((n : List ℕ) → sum_by (λ a. cond (same_name (name a) n) 1 0) ys ≤ 1) → xs ≡ ys
  sorted_alike [] ys alike up also_up once = sym (nil_from_length ys (omega (arith, sum_by-ones ys, alike (λ y. 1))))
  sorted_alike (x ∷ xs) [] alike up also_up once = absurd (omega (arith, sum_by-ones (x ∷ xs), alike (λ y. 1)))
  sorted_alike (x ∷ xs) (y ∷ ys) alike up also_up once =
      let first = heads x xs y ys alike up also_up once in
      let rest = sorted_alike xs ys (λ f. omega (arith, alike f, sum_by-cons f x xs, sum_by-cons f y ys, ap f first)) (rest_sorted x xs up) (rest_sorted y ys also_up)
      (λ n. omega (arith, once n, sum_by-cons (λ (a : A). cond (same_name (name a) n) 1 0) y ys)) in
      λ i. first i ∷ rest i
