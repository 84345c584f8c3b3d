-- The number of seats that hold tickets at once, and so of the turns of a cell that are still to come.
use Rattle.fak_core.proofs.Common.{Phase, QueueState, stage, sum_below, sum_most, ◌≡◌, ℕ, zero, suc, ◌+◌, ◌-◌, ◌<◌, ◌≤◌, sym, ap, ◌∙◌, inl, inr, arith, same_or_not, common_steps, min, sum_le, seat_bound, in_drawn, stage_beyond, drawn_few, HoldsTicketOf, AreIdleFrom, has_drawn, drawn_seats, refl}
use Rattle.fak_core.proofs.QueueKept.{shown, IsKept}
use Rattle.fak_core.proofs.QueueTurns.{le_or_lt}
use Rattle.fak_core.proofs.QueueProgress.{due, held}
use Rattle.fak_core.proofs.QueueEvents.{holds_open}

-- ---- sums over seats

sum_strict : (f f' : ℕ → ℕ) (t n : ℕ) → t < n → ((s : ℕ) → f s ≤ f' s) → f t < f' t → sum_below f n < sum_below f' n
sum_strict f f' t zero l each more = absurd (omega arith)
sum_strict f f' t (suc n) l each more = elim (same_or_not t n) [
  | inl q ↦ (let a = ap f q in let b = ap f' q in let rest = sum_le f f' n each in omega arith)
  | inr ne ↦ (let rest = sum_strict f f' t n (omega arith) each more in let here = each n in omega arith)
]

-- if each of m values in a row belongs to a seat of weight 1 or more, the seats weigh at least m
seats_for : (w g : ℕ → ℕ) (n low m : ℕ) → ((v : ℕ) → low ≤ v → v < low + m → (t : ℕ) × (t < n) × (g t ≡ v) × (1 ≤ w t)) → m ≤ sum_below (λ s. w s - ((g s + 1) - (low + m))) n
seats_for w g n low zero each = omega arith
seats_for w g n low (suc m) each =
    let rest = seats_for w g n low m (λ v a b. each v a (omega arith)) in
    let t = each (low + m) (omega arith) (omega arith) in
    let more = sum_strict (λ s. w s - ((g s + 1) - (low + m))) (λ s. w s - ((g s + 1) - (low + suc m))) t.0 n t.1 (λ s. omega arith) (omega (arith, t.2, t.3)) in
    omega arith

few_values : (w g : ℕ → ℕ) (n low m : ℕ) → ((v : ℕ) → low ≤ v → v < low + m → (t : ℕ) × (t < n) × (g t ≡ v) × (1 ≤ w t)) → m ≤ sum_below w n
few_values w g n low m each = omega (arith, seats_for w g n low m each, sum_le (λ s. w s - ((g s + 1) - (low + m))) w n (λ s. omega arith))

sum_more : (f : ℕ → ℕ) (n m : ℕ) → n ≤ m → sum_below f n ≤ sum_below f m
sum_more f zero m l = omega arith
sum_more f (suc n) zero l = absurd (omega arith)
sum_more f (suc n) (suc m) l = elim (same_or_not n m) [
  | inl q ↦ (let a = ap (sum_below f) q in let b = ap f q in omega arith)
  | inr ne ↦ (let rest = sum_more f (suc n) m (omega arith) in omega arith)
]

-- seats of weight 0 add nothing
sum_within : (f : ℕ → ℕ) (m n : ℕ) → ((s : ℕ) → m ≤ s → f s ≡ 0) → sum_below f n ≤ sum_below f m
sum_within f m zero none = omega arith
sum_within f m (suc n) none = elim (le_or_lt m n) [
  | inl out ↦ (let here = none n out in let rest = sum_within f m n none in omega arith)
  | inr l ↦ sum_more f (suc n) m (omega arith)
]

-- ---- seats that hold a ticket

-- a seat that holds a ticket is one of the first seats
pub below : {A : Type 0} (size seats : ℕ) (st : QueueState A) (s c : ℕ) → AreIdleFrom seats st → HoldsTicketOf size (st.phase s) c → s < seats
below size seats st s c idle h = grind (arith, common_steps, le_or_lt, holds_open)

holds_drawn : {A : Type 0} (size : ℕ) (p : Phase A) (c : ℕ) → HoldsTicketOf size p c → in_drawn (shown p) ≡ 1
holds_drawn size p c h = grind (arith, common_steps, in_drawn, shown)

drawn_shown : {A : Type 0} (p : Phase A) → has_drawn p ≡ in_drawn (shown p)
drawn_shown p = grind (arith, common_steps, has_drawn, in_drawn, shown)

drawn_is : {A : Type 0} (size : ℕ) (st : QueueState A) (n : ℕ) → IsKept size st → drawn_seats st n ≡ sum_below (λ s. in_drawn (stage st.past s)) n
drawn_is size st zero K = refl
drawn_is size st (suc n) K = omega (arith, drawn_shown (st.phase n), ap in_drawn (K.phases n), drawn_is size st n K)

-- at most as many seats are between the draw of a ticket and the end of their call as the queue has cells
pub few_drawn : {A : Type 0} (size n : ℕ) (st : QueueState A) → IsKept size st → drawn_seats st n ≤ size
few_drawn size n st K =
    omega (arith, drawn_is size st n K, drawn_few size st.past K.legal, sum_within (λ s. in_drawn (stage st.past s)) (seat_bound st.past) n (λ s out. ap in_drawn (stage_beyond st.past s out)))

-- ---- turns to come

-- at most as many turns of a cell are to come, up to a seat's own, as the queue has cells
pub turns_in_size : {A : Type 0} (size : ℕ) (st : QueueState A) (s c : ℕ) → 0 < size → IsKept size st → HoldsTicketOf size (st.phase s) c → (due size (st.phase s) + 1) - st.turn c ≤ size
turns_in_size {A} size st s c z K h =
    let n = seat_bound st.past in
    let few = few_values (λ t. in_drawn (stage st.past t)) (λ t. due size (st.phase t)) n (st.turn c) ((due size (st.phase s) + 1) - st.turn c) (λ v a b.
    let w = held size st c v z K (due size (st.phase s) - v) s (h, omega arith) a in
    let one : in_drawn (stage st.past w.0) ≡ 1 = ap in_drawn (sym (K.phases w.0)) ∙ holds_drawn size (st.phase w.0) c w.1.0 in
    let within : w.0 < n = elim (le_or_lt n w.0) [ inl out ↦ absurd (omega (arith, one, ap in_drawn (stage_beyond st.past w.0 out))) | inr l ↦ l ] in
    (w.0, within, w.1.1, omega arith)) in
    omega (arith, few, drawn_few size st.past K.legal)

-- and at most as many as there are seats
turns_in_seats : {A : Type 0} (size seats : ℕ) (st : QueueState A) (s c : ℕ) → 0 < size → IsKept size st → AreIdleFrom seats st → HoldsTicketOf size (st.phase s) c → (due size (st.phase s) + 1) - st.turn c ≤ seats
turns_in_seats {A} size seats st s c z K idle h =
    let few = few_values (λ t. 1) (λ t. due size (st.phase t)) seats (st.turn c) ((due size (st.phase s) + 1) - st.turn c) (λ v a b.
    let w = held size st c v z K (due size (st.phase s) - v) s (h, omega arith) a in
    (w.0, below size seats st w.0 c idle w.1.0, w.1.1, omega arith)) in
    omega (arith, few, sum_most (λ t. 1) 1 seats (λ t l. omega arith))

pub few_turns : {A : Type 0} (size seats : ℕ) (st : QueueState A) (s c : ℕ) → 0 < size → IsKept size st → AreIdleFrom seats st → HoldsTicketOf size (st.phase s) c → (due size (st.phase s) + 1) - st.turn c ≤ min size seats
few_turns size seats st s c z K idle h = omega (arith, turns_in_size size st s c z K h, turns_in_seats size seats st s c z K idle h)
