-- Each cell has at most one owner, and what a seat knows stays true while others step.
use Rattle.fak_core.proofs.Common.{Phase, StoreItem, SetFull, LoadItem, SetFree, QueueState, with_at, with_phase, InCell, ◌≡◌, ◌≢◌, ◌⊎◌, ℕ, ◌+◌, ◌-◌, ◌*◌, ◌/◌, ◌%◌, ◌<◌, Bool, List, ◌∷◌, Option, refl, subst, inl, inr, arith, ℤ, Kind, Fill, Take, Close, Mark, Putting, Getting, count, puts, gots, upper_count, lower_count, Has, after, stage, MayFollow, putting_one, putting_unfilled, getting_one, getting_untaken, common_steps, stage_here, stage_else}
use Rattle.fak_core.proofs.QueueKept.{shown, TakenBefore, IsReady, Turns, Cells, TellsShut, IsKept}
use Rattle.fak_core.proofs.QueueTurns.{at_else, by_place, one_ticket, fill_turn, take_turn, le_or_lt}

-- ---- at most one seat in each cell

-- a seat in a cell fills it or empties it
pub in_cell : {A : Type 0} (size : ℕ) (h : List (Mark A)) (cell : ℕ → Option A) (p : Phase A) (c : ℕ) → IsReady size h cell p → InCell size p c
    → ((k : ℕ) × (x : A) × (shown p ≡ Putting k x) × TakenBefore size h k × (k % size ≡ c)) ⊎ ((k : ℕ) × (shown p ≡ Getting k) × Has (Fill k) h × (k % size ≡ c))
in_cell size h cell (StoreItem k x) c r i = inl (k, x, refl, r, i)
in_cell size h cell (SetFull k x) c r i = inl (k, x, refl, r.0, i)
in_cell size h cell (LoadItem k) c r i = inr (k, refl, r, i)
in_cell size h cell (SetFree k) c r i = inr (k, refl, r, i)
in_cell size h cell _ c r i = absurd i

-- the turn word while a seat fills or empties a cell
pub filling : {A : Type 0} (size : ℕ) (st : QueueState A) (s k : ℕ) (x : A) → 0 < size → IsKept size st → stage st.past s ≡ Putting k x → TakenBefore size st.past k → st.turn (k % size) ≡ 2 * (k / size)
filling size st s k x z K e b = fill_turn size st.past st.turn k z K.turns b (putting_unfilled size st.past K.legal s k x e)

pub emptying : {A : Type 0} (size : ℕ) (st : QueueState A) (s k : ℕ) → IsKept size st → stage st.past s ≡ Getting k → Has (Fill k) st.past → st.turn (k % size) ≡ 2 * (k / size) + 1
emptying size st s k K e b = take_turn size st.past st.turn k K.turns b (getting_untaken size st.past K.legal s k e)

pub alone : {A : Type 0} (size : ℕ) (st : QueueState A) (s t c : ℕ) → 0 < size → IsKept size st → InCell size (st.phase s) c → InCell size (st.phase t) c → s ≡ t
alone size st s t c z K i j = grind (arith, common_steps, in_cell, filling, one_ticket, putting_one, emptying, getting_one)

-- ---- what a seat knows stays true

pub ready_more : {A : Type 0} (size : ℕ) (m : Mark A) (h : List (Mark A)) (cell : ℕ → Option A) (p : Phase A) → IsReady size h cell p → IsReady size (m ∷ h) cell p
ready_more size m h cell p r = grind (arith, common_steps, IsReady)

pub ready_store : {A : Type 0} (size : ℕ) (h : List (Mark A)) (cell : ℕ → Option A) (c : ℕ) (v : Option A) (p : Phase A) → IsReady size h cell p → (InCell size p c → ⊥) → IsReady size h (with_at cell c v) p
ready_store size h cell c v p r un = grind (arith, common_steps, with_at, IsReady, at_else)

-- ---- a step of one seat

pub kept_goes : {A : Type 0} (size : ℕ) (st : QueueState A) (s : ℕ) (p : Phase A) → IsKept size st → shown p ≡ stage st.past s → IsReady size st.past st.cell p → IsKept size (with_phase st s p)
kept_goes size st s p K e r = grind (arith, common_steps, by_place, shown, stage)

-- a mark that is no Close
pub shuts_plain : {A : Type 0} (m : Mark A) (h : List (Mark A)) (b : Bool) → (m.kind ≡ Close → ⊥) → TellsShut h b → TellsShut (m ∷ h) b
shuts_plain m h b nc sh = (λ e. inr (sh.0 e), λ e has. elim has [ inl q ↦ nc q | inr g ↦ sh.1 e g ])

pub kept_marks : {A : Type 0} (size : ℕ) (st : QueueState A) (s : ℕ) (p : Phase A) (κ : Kind A) (U L : ℤ) (I D : ℕ) (turn : ℕ → ℕ) (b : Bool) → IsKept size st
    → MayFollow size st.past s κ → shown p ≡ after st.past κ
    → IsReady size ((record { seat = s; kind = κ }) ∷ st.past) st.cell p
    → U ≡ upper_count ((record { seat = s; kind = κ }) ∷ st.past) → L ≡ lower_count ((record { seat = s; kind = κ }) ∷ st.past)
    → I ≡ count puts ((record { seat = s; kind = κ }) ∷ st.past) → D ≡ count gots ((record { seat = s; kind = κ }) ∷ st.past)
    → Turns size ((record { seat = s; kind = κ }) ∷ st.past) turn → Cells size ((record { seat = s; kind = κ }) ∷ st.past) st.cell
    → TellsShut ((record { seat = s; kind = κ }) ∷ st.past) b
    → IsKept size (record { upper = U; lower = L; draws_in = I; draws_out = D; turn = turn; cell = st.cell; phase = with_at st.phase s p; past = (record { seat = s; kind = κ }) ∷ st.past; shut = b })
kept_marks {A} size st s p κ U L I D turn b K may e r u l i d ts cs sh = grind (arith, common_steps, by_place, shown, stage, stage_here, stage_else, ready_more)

-- ---- a seat that does not find its turn

pub waits_fill : {A : Type 0} (size : ℕ) (st : QueueState A) (s k : ℕ) (x : A) → 0 < size → IsKept size st → stage st.past s ≡ Putting k x → st.turn (k % size) ≢ 2 * (k / size)
    → (j : ℕ) × (k ≡ j + size) × (Has (Take j) st.past → ⊥)
waits_fill size st s k x z K e ne = elim (le_or_lt size k) [
  | inl le ↦ (let is : k ≡ (k - size) + size = omega arith in
      (k - size, is, λ t. ne (filling size st s k x z K e (λ j q. let same : k - size ≡ j = omega arith in subst (λ i. Has (Take i) st.past) same t))))
  | inr lt ↦ absurd (ne (filling size st s k x z K e (λ j q. absurd (omega arith))))
]

pub waits_take : {A : Type 0} (size : ℕ) (st : QueueState A) (s k : ℕ) → IsKept size st → stage st.past s ≡ Getting k → st.turn (k % size) ≢ 2 * (k / size) + 1 → Has (Fill k) st.past → ⊥
waits_take size st s k K e ne b = ne (emptying size st s k K e b)
