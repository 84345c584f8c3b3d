-- Each ticket has one inserter and one deleter, and only they fill and empty its cell.
use Rattle.fak_model.proofs.Common.{Kind, Fill, Take, Mark, count, puts, gots, Has, Putting, Getting, ◌≡◌, ◌≢◌, ◌⊎◌, ℕ, ◌<◌, ◌≤◌, ◌==◌, cond, List, [], ◌∷◌, Option, Some, sym, ap, ◌∙◌, inl, inr, arith, stage, item_put, item_of, IsLegalPast, common_steps}
use Rattle.fak_model.proofs.Deciding.{cond_here, cond_else, same_or_not}
use Rattle.fak_model.proofs.QueueStages.{putting_back, getting_back}

-- ---- items

pub item_keeps : {A : Type 0} (k n : ℕ) (κ : Kind A) (r : Option A) → k ≢ n → item_put k n κ r ≡ r
item_keeps k n κ r ne = grind (arith, common_steps, item_put, cond_else)

-- for the newest ticket a draw gives an item, and any other mark changes nothing
pub item_new : {A : Type 0} (k n : ℕ) (κ : Kind A) (r : Option A) → k ≡ n → ((puts κ ≡ 1) × ((x : A) × (item_put k n κ r ≡ Some x))) ⊎ ((puts κ ≡ 0) × (item_put k n κ r ≡ r))
item_new k n κ r e = grind (arith, common_steps, puts, item_put, cond_here)

pub item_below : {A : Type 0} (h : List (Mark A)) (k : ℕ) (x : A) → item_of h k ≡ Some x → k < count puts h
item_below [] k x e = absurd cc
item_below {A} (m ∷ h) k x e = elim (same_or_not k (count puts h)) [
  | inl q ↦ elim (item_new k (count puts h) m.kind (item_of h k) q) [
    | inl w ↦ omega arith
    | inr w ↦ let f = item_below h k x (sym w.1 ∙ e) in omega arith
  ]
  | inr n ↦ let f = item_below h k x (sym (item_keeps k (count puts h) m.kind (item_of h k) n) ∙ e) in omega arith
]

pub item_stays : {A : Type 0} (m : Mark A) (h : List (Mark A)) (k : ℕ) (x : A) → item_of h k ≡ Some x → item_of (m ∷ h) k ≡ Some x
item_stays m h k x e = let b = item_below h k x e in let ne : k ≢ count puts h = omega arith in item_keeps k (count puts h) m.kind (item_of h k) ne ∙ e

pub a_put_bit : {A : Type 0} (κ : Kind A) → puts κ ≤ 1
a_put_bit κ = grind (arith, common_steps, puts)

pub item_there : {A : Type 0} (h : List (Mark A)) (k : ℕ) → k < count puts h → (x : A) × (item_of h k ≡ Some x)
item_there [] k lt = absurd (omega arith)
item_there {A} (m ∷ h) k lt = elim (same_or_not k (count puts h)) [
  | inl q ↦ elim (item_new k (count puts h) m.kind (item_of h k) q) [
    | inl w ↦ w.1
    | inr w ↦ absurd (omega arith)
  ]
  | inr n ↦ (let f = item_there h k (omega (arith, a_put_bit m.kind)) in (f.0, item_stays m h k f.0 f.1))
]

-- ---- insertions

pub putting_below : {A : Type 0} (h : List (Mark A)) (s k : ℕ) (x : A) → stage h s ≡ Putting k x → k < count puts h
putting_below [] s k x e = absurd cc
putting_below (m ∷ h) s k x e = elim (putting_back m h s k x e) [
  | inl w ↦ omega (arith, ap puts w.1)
  | inr w ↦ let f = putting_below h s k x w.1 in omega arith
]

-- the item of the inserter is that of its ticket
pub putting_item : {A : Type 0} (h : List (Mark A)) (s k : ℕ) (x : A) → stage h s ≡ Putting k x → item_of h k ≡ Some x
putting_item [] s k x e = absurd cc
putting_item (m ∷ h) s k x e = elim (putting_back m h s k x e) [
  | inl w ↦ ap (λ κ. item_put k (count puts h) κ (item_of h k)) w.1
      ∙ (ap (λ n. cond (k == n) (Some x) (item_of h k)) (sym w.2) ∙ cond_here k (Some x) (item_of h k))
  | inr w ↦ item_stays m h k x (putting_item h s k x w.1)
]

-- no two seats insert for one ticket
pub putting_one : {A : Type 0} (h : List (Mark A)) (s t k : ℕ) (x y : A) → stage h s ≡ Putting k x → stage h t ≡ Putting k y → s ≡ t
putting_one [] s t k x y e f = absurd cc
putting_one (m ∷ h) s t k x y e f = elim (putting_back m h s k x e) [
  | inl w ↦ elim (putting_back m h t k y f) [
    | inl v ↦ w.0 ∙ sym v.0
    | inr v ↦ let b = putting_below h t k y v.1 in absurd (omega arith)
  ]
  | inr w ↦ elim (putting_back m h t k y f) [
    | inl v ↦ let b = putting_below h s k x w.1 in absurd (omega arith)
    | inr v ↦ putting_one h s t k x y w.1 v.1
  ]
]

pub fill_below : {A : Type 0} (size : ℕ) (h : List (Mark A)) → IsLegalPast size h → (k : ℕ) → Has (Fill k) h → k < count puts h
fill_below size [] l k e = absurd e
fill_below {A} size (m ∷ h) l k (inl e) = grind (arith, common_steps, putting_below)
fill_below size (m ∷ h) l k (inr e) = let b = fill_below size h l.1 k e in omega arith

-- a cell that a seat is about to fill for its ticket is not filled for it yet
pub putting_unfilled : {A : Type 0} (size : ℕ) (h : List (Mark A)) → IsLegalPast size h → (s k : ℕ) (x : A) → stage h s ≡ Putting k x → Has (Fill k) h → ⊥
putting_unfilled size [] l s k x e f = f
putting_unfilled size (m ∷ h) l s k x e (inl q) = grind (arith, common_steps, putting_back, putting_one)
putting_unfilled size (m ∷ h) l s k x e (inr g) = elim (putting_back m h s k x e) [
  | inl w ↦ let b = fill_below size h l.1 k g in omega arith
  | inr w ↦ putting_unfilled size h l.1 s k x w.1 g
]

-- ---- deletions

pub getting_below : {A : Type 0} (h : List (Mark A)) (s k : ℕ) → stage h s ≡ Getting k → k < count gots h
getting_below [] s k e = absurd cc
getting_below (m ∷ h) s k e = elim (getting_back m h s k e) [
  | inl w ↦ omega (arith, ap gots w.1.1)
  | inr w ↦ let f = getting_below h s k w.1 in omega arith
]

pub getting_one : {A : Type 0} (h : List (Mark A)) (s t k : ℕ) → stage h s ≡ Getting k → stage h t ≡ Getting k → s ≡ t
getting_one [] s t k e f = absurd cc
getting_one (m ∷ h) s t k e f = elim (getting_back m h s k e) [
  | inl w ↦ elim (getting_back m h t k f) [
    | inl v ↦ w.0 ∙ sym v.0
    | inr v ↦ let b = getting_below h t k v.1 in absurd (omega arith)
  ]
  | inr w ↦ elim (getting_back m h t k f) [
    | inl v ↦ let b = getting_below h s k w.1 in absurd (omega arith)
    | inr v ↦ getting_one h s t k w.1 v.1
  ]
]

pub take_below : {A : Type 0} (size : ℕ) (h : List (Mark A)) → IsLegalPast size h → (k : ℕ) → Has (Take k) h → k < count gots h
take_below size [] l k e = absurd e
take_below {A} size (m ∷ h) l k (inl e) = grind (arith, common_steps, getting_below)
take_below size (m ∷ h) l k (inr e) = let b = take_below size h l.1 k e in omega arith

pub getting_untaken : {A : Type 0} (size : ℕ) (h : List (Mark A)) → IsLegalPast size h → (s k : ℕ) → stage h s ≡ Getting k → Has (Take k) h → ⊥
getting_untaken size [] l s k e f = f
getting_untaken size (m ∷ h) l s k e (inl q) = grind (arith, common_steps, getting_back, getting_one)
getting_untaken size (m ∷ h) l s k e (inr g) = elim (getting_back m h s k e) [
  | inl w ↦ let b = take_below size h l.1 k g in omega arith
  | inr w ↦ getting_untaken size h l.1 s k w.1 g
]
