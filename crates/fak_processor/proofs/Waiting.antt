-- Several queues, seen as the lists of their items, of which one changes.
use Rattle.fak_processor.proofs.Common.{◌≡◌, ℕ, ◌<◌, List, [], ◌∷◌, ◌++◌, All, length, map, slice_set, slice_index_or, ap, sym, subst, arith, drop, Option, Some, None, IfSome, option_to_list, map-set, get_or-map, length-map, get_or-set_same, get_or-set_other, All-push, All-drop, same_or_not, common_steps}

-- P n holds of each item of the list at place n
abbrev pub AllAtTheirs : {X : Type 0} → (ℕ → X → Type 0) → List (List X) → Type 0
AllAtTheirs P xss = (n : ℕ) → All (P n) (slice_index_or xss n [])

-- the list at one place changes
AllAtTheirs-set : {X : Type 0} (P : ℕ → X → Type 0) (xss : List (List X)) (i : ℕ) (ys : List X) → i < length xss → AllAtTheirs P xss → All (P i) ys → AllAtTheirs P (slice_set xss i ys)
AllAtTheirs-set P xss i ys lt each here n = grind (arith, common_steps, same_or_not, slice_index_or, slice_set, get_or-set_same, here, get_or-set_other)

-- the list at place i, if queue q is there
at_place : {Q X : Type 0} (f : Q → List X) (qs : List Q) (i : ℕ) (q : Q) → i < length (map f qs) → q ≡ slice_index_or qs i q → f q ≡ slice_index_or (map f qs) i []
at_place f qs i q lt is = grind (arith, common_steps, length, length-map, get_or-map)

module _ {Q X : Type 0} (P : ℕ → X → Type 0) (f : Q → List X) (qs : List Q) (i : ℕ) (q r : Q) (lt : i < length (map f qs)) (is : q ≡ slice_index_or qs i q) (each : AllAtTheirs P (map f qs)) where
  here : All (P i) (f q)
  here = subst (All (P i)) (sym (at_place f qs i q lt is)) (each i)

  changed : All (P i) (f r) → AllAtTheirs P (map f (slice_set qs i r))
  changed all = subst (AllAtTheirs P) (sym (map-set f qs i r)) (AllAtTheirs-set P (map f qs) i (f r) lt each all)

  -- nothing was pushed
  pub AllAtTheirs-same : f r ≡ f q → AllAtTheirs P (map f (slice_set qs i r))
  AllAtTheirs-same same = changed (subst (All (P i)) (sym same) here)

  -- an item is pushed
  pub AllAtTheirs-push : (x : X) → f r ≡ f q ++ x ∷ [] → P i x → AllAtTheirs P (map f (slice_set qs i r))
  AllAtTheirs-push x pushed p = changed (subst (All (P i)) (sym pushed) (All-push (P i) (f q) x here p))

  -- the first item is popped
  pub AllAtTheirs-pop : f r ≡ drop 1 (f q) → AllAtTheirs P (map f (slice_set qs i r))
  AllAtTheirs-pop rest = changed (subst (All (P i)) (sym rest) (All-drop (P i) 1 (f q) here))

  pub first_of : (o : Option X) → f q ≡ option_to_list o ++ f r → IfSome o (λ x. P i x)
  first_of None items = tt
  first_of (Some x) items = subst (All (P i)) items here 0 x (omega (arith, ap length items))
