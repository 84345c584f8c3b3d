-- Taking the oldest item out of a closed queue.
use Rattle.fak_queue.proofs.Common.{◌≡◌, ◌≢◌, ℕ, zero, suc, ◌+◌, ◌-◌, ◌%◌, ◌<◌, ◌≤◌, Bool, true, false, List, ◌∷◌, ◌++◌, length, get_or, set, refl, sym, ◌∙◌, subst, arith, length-append, length-set, get_or-set_same, get_or-set_other, Option, Some, None, some, some-injective, get_elem?, common_steps, set_else, one_turn}
use mathlib.Core.Logic.{dite}
use mathlib.Core.Option as maybe
use Rattle.fak_queue.specs.Left.{item_in, items_left}

module _ {T : Type 0} where
  item_short : (o : maybe.Option (Option T)) → length (item_in o) ≤ 1
  item_short o = grind (arith, common_steps, length, item_in)

  left_short : (n : ℕ) (xs : List (Option T)) (k m : ℕ) → length (items_left n xs k m) ≤ m
  left_short n xs k zero = omega arith
  left_short n xs k (suc m) = let a = item_short (get_elem? xs (k % n)) in let b = left_short n xs (suc k) m in
      let e : length (items_left n xs k (suc m)) ≡ length (item_in (get_elem? xs (k % n))) + length (items_left n xs (suc k) m) = length-append (item_in (get_elem? xs (k % n))) (items_left n xs (suc k) m) in omega arith

  one_item : (o : maybe.Option (Option T)) → length (item_in o) ≡ 1 → (x : T) × (o ≡ some (Some x))
  one_item o e = grind (arith, common_steps, length, item_in, some)

  -- if as many items are left as there are cells, the first cell has one
  pub first_left : (n : ℕ) (xs : List (Option T)) (k m : ℕ) → length (items_left n xs k (suc m)) ≡ suc m
      → ((x : T) × (get_elem? xs (k % n) ≡ some (Some x)) × (items_left n xs k (suc m) ≡ x ∷ items_left n xs (suc k) m)) × (length (items_left n xs (suc k) m) ≡ m)
  first_left n xs k m full = grind (arith, common_steps, item_short, left_short, length, items_left, item_in, length-append, one_item)

  -- a cell that is not among the next m
  left_set : (n : ℕ) (xs : List (Option T)) (c : ℕ) (y : Option T) (k m : ℕ) → ((j : ℕ) → k ≤ j → j < k + m → j % n ≢ c) → items_left n (set xs c y) k m ≡ items_left n xs k m
  left_set n xs c y k zero far = refl
  left_set n xs c y k (suc m) far = (λ i. item_in (set_else xs c (k % n) y (far k (omega arith) (omega arith)) i) ++ left_set n xs c y (suc k) m (λ j p q. far j (omega arith) (omega arith)) i)

  pub left_after : (n : ℕ) (xs : List (Option T)) (y : Option T) (k m : ℕ) → suc m ≤ n → items_left n (set xs (k % n) y) (suc k) m ≡ items_left n xs (suc k) m
  left_after n xs y k m room = left_set n xs (k % n) y (suc k) m (λ j p q e. let same : k ≡ j = one_turn k j n (omega arith) (omega arith) (sym e) in omega arith)

  pub next_item : (n : ℕ) (xs : List (Option T)) (y : Option T) (k m : ℕ) → ¬ (m ≡ 0) → m ≤ n → length (items_left n xs k m) ≡ m
      → (x : T) × (get_elem? xs (k % n) ≡ some (Some x)) × (items_left n xs k m ≡ x ∷ items_left n (set xs (k % n) y) (k + 1) (m - 1)) × (length (items_left n (set xs (k % n) y) (k + 1) (m - 1)) ≡ m - 1)
  next_item n xs y k m some' room full = grind (arith, common_steps, length, items_left, some, set, first_left, left_after)

  pub not_none : (xs : List (Option T)) (i : ℕ) (x : T) (y : Option T) → get_elem? xs i ≡ some (Some x) → get_elem? xs i ≡ some y → y ≡ Some x
  not_none xs i x y e f = some-injective y (Some x) (sym f ∙ e)

  abbrev IsAbsent : Option T → Type 0
  IsAbsent None = Unit {0}
  IsAbsent (Some x) = ⊥

  pub none_or_some : (x : T) (y : Option T) → y ≡ Some x → y ≡ None → ⊥
  none_or_some x y e f = subst IsAbsent (sym f ∙ e) tt

pub refilled : (f : List Bool) (i n : ℕ) → i < length f → ((k : ℕ) → 0 ≤ k → k < n → get_or f k false ≡ true) → (k : ℕ) → 0 ≤ k → k < n → get_or (set (set f i false) i true) k false ≡ true
refilled f i n near full k z less = grind (arith, common_steps, dite, get_or, set, get_or-set_same, length-set, get_or-set_other)

pub same_some : {A : Type 0} (x y : A) → Some x ≡ Some y → x ≡ y
same_some x y e = cc
