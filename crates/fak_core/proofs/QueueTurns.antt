-- The turn words and the cells, after one more mark or one more write.
use Rattle.fak_core.proofs.Common.{◌≡◌, ◌≢◌, ◌⊎◌, ℕ, ◌+◌, ◌-◌, ◌*◌, ◌/◌, ◌%◌, ◌<◌, ◌≤◌, List, ◌∷◌, Option, Some, ap, ◌∙◌, inl, inr, arith, Fill, Take, Mark, Has, item_of, IsLegalPast, same_or_not, cond_here, cond_else, item_stays, item_there, fill_below, with_at, common_steps, div-add-mod, add-mod_right, add-div_right}
use Rattle.fak_core.proofs.QueueKept.{TakenBefore, Turns, Cells}

-- ---- values of a function

pub at_here : {B : Type 0} (f : ℕ → B) (i : ℕ) (x : B) → with_at f i x i ≡ x
at_here f i x = cond_here i x (f i)

pub at_same : {B : Type 0} (f : ℕ → B) (i j : ℕ) (x : B) → j ≡ i → with_at f i x j ≡ x
at_same f i j x e = ap (with_at f i x) e ∙ at_here f i x

pub at_else : {B : Type 0} (f : ℕ → B) (i j : ℕ) (x : B) → j ≢ i → with_at f i x j ≡ f j
at_else f i j x ne = cond_else j i x (f j) ne

pub by_place : {B : Type 0} (P : B → Type 0) (f : ℕ → B) (i j : ℕ) (x : B) → (j ≡ i → P x) → (j ≢ i → P (f j)) → P (with_at f i x j)
by_place P f i j x here there = grind (arith, common_steps, same_or_not, at_same, at_else)

-- ---- tickets and cells

pub one_ticket : (k j size : ℕ) → k % size ≡ j % size → k / size ≡ j / size → k ≡ j
one_ticket k j size e f = let a = div-add-mod k size in let b = div-add-mod j size in let c = ap (λ q. size * q) f in omega arith

pub low_round : (k size : ℕ) → k < size → k / size ≡ 0
low_round k size l = grind arith

pub le_or_lt : (a b : ℕ) → (a ≤ b) ⊎ (b < a)
le_or_lt a b = grind arith

-- ---- turns

-- a seat that may fill finds its turn
pub fill_turn : {A : Type 0} (size : ℕ) (h : List (Mark A)) (turn : ℕ → ℕ) (k : ℕ) → 0 < size → Turns size h turn → TakenBefore size h k → (Has (Fill k) h → ⊥) → turn (k % size) ≡ 2 * (k / size)
fill_turn size h turn k pos_size ts before un = elim (le_or_lt size k) [
  | inl le ↦
      (let j : ℕ = k - size in
      let is : k ≡ j + size = omega arith in
      let up = ts.taken_up j (before j is) in
      let cell : turn (k % size) ≡ turn (j % size) = ap turn (ap (λ i. i % size) is ∙ add-mod_right j size) in
      let round : k / size ≡ j / size + 1 = ap (λ i. i / size) is ∙ add-div_right j pos_size in
      elim (le_or_lt (2 * (k / size) + 1) (turn (k % size))) [
        | inl over ↦ absurd (un (ts.up_filled k over))
        | inr under ↦ omega arith
      ])
  | inr lt ↦
      (let zero_round = low_round k size lt in
      elim (le_or_lt (2 * (k / size) + 1) (turn (k % size))) [
        | inl over ↦ absurd (un (ts.up_filled k over))
        | inr under ↦ omega arith
      ])
]

-- a seat that may take finds its turn
pub take_turn : {A : Type 0} (size : ℕ) (h : List (Mark A)) (turn : ℕ → ℕ) (k : ℕ) → Turns size h turn → Has (Fill k) h → (Has (Take k) h → ⊥) → turn (k % size) ≡ 2 * (k / size) + 1
take_turn size h turn k ts full un = grind (arith, common_steps, le_or_lt)

-- a mark that neither fills a cell nor takes from one
pub turns_plain : {A : Type 0} (size : ℕ) (m : Mark A) (h : List (Mark A)) (turn : ℕ → ℕ) → ((k : ℕ) → m.kind ≡ Fill k → ⊥) → ((k : ℕ) → m.kind ≡ Take k → ⊥) → Turns size h turn → Turns size (m ∷ h) turn
turns_plain size m h turn nf nt ts = grind (arith, common_steps)

pub turns_fill : {A : Type 0} (size : ℕ) (m : Mark A) (k : ℕ) (h : List (Mark A)) (turn : ℕ → ℕ) → m.kind ≡ Fill k → turn (k % size) ≡ 2 * (k / size) → Turns size h turn
    → Turns size (m ∷ h) (with_at turn (k % size) (2 * (k / size) + 1))
turns_fill {A} size m k h turn is here ts = grind (arith, common_steps, at_same, by_place, same_or_not, one_ticket, at_else)

pub turns_take : {A : Type 0} (size : ℕ) (m : Mark A) (k : ℕ) (h : List (Mark A)) (turn : ℕ → ℕ) → m.kind ≡ Take k → turn (k % size) ≡ 2 * (k / size) + 1 → Turns size h turn
    → Turns size (m ∷ h) (with_at turn (k % size) (2 * (k / size) + 2))
turns_take {A} size m k h turn is here ts = grind (arith, common_steps, by_place, same_or_not, at_same, at_else, one_ticket)

-- ---- cells

-- a mark that fills no cell
pub cells_plain : {A : Type 0} (size : ℕ) (m : Mark A) (h : List (Mark A)) (cell : ℕ → Option A) → IsLegalPast size h → ((k : ℕ) → m.kind ≡ Fill k → ⊥) → Cells size h cell → Cells size (m ∷ h) cell
cells_plain size m h cell l nf cs k e un = grind (arith, common_steps, item_there, fill_below, item_stays)

pub cells_fill : {A : Type 0} (size : ℕ) (m : Mark A) (k : ℕ) (x : A) (h : List (Mark A)) (cell : ℕ → Option A) → IsLegalPast size h → m.kind ≡ Fill k → item_of h k ≡ Some x → cell (k % size) ≡ Some x
    → Cells size h cell → Cells size (m ∷ h) cell
cells_fill size m k x h cell l is it here cs j e un = grind (arith, common_steps, item_stays, item_of, item_there, fill_below)

-- a store into a cell whose turn it is to be filled
pub cells_store : {A : Type 0} (size : ℕ) (k : ℕ) (x : A) (h : List (Mark A)) (turn : ℕ → ℕ) (cell : ℕ → Option A) → Turns size h turn → turn (k % size) ≡ 2 * (k / size)
    → Cells size h cell → Cells size h (with_at cell (k % size) (Some x))
cells_store {A} size k x h turn cell ts here cs j e un = grind (arith, common_steps, by_place, item_of, take_turn)
