-- How an event changes the turns of the cells and the seats that hold tickets.
use Rattle.fak_core.specs.QueueSchedule.{QueueEvent, Advances, begun, happens, move_from, stepped}
use Rattle.fak_core.proofs.Common.{Phase, Idle, QueueState, with_at, moved, written, ticket_out, next_move, ◌≡◌, ◌≢◌, ◌⊎◌, ℕ, ◌+◌, ◌<◌, ◌≤◌, int_lt, Option, sym, ap, ◌∙◌, subst, arith, same_or_not, item_of, common_steps, steps_left, steps_made, HoldsTicketOf, seat_of}
use Rattle.fak_core.proofs.QueueKept.{shown, IsKept}
use Rattle.fak_core.proofs.QueueTurns.{at_here, at_same, at_else, by_place}
use Rattle.fak_core.proofs.QueueOwners.{filling, emptying}
use Rattle.fak_core.proofs.QueueSteps.{by_test}
use Rattle.fak_core.proofs.QueueProgress.{after_phase, step_here, step_else, due, HoldsTurn}

pub idle_or_not : {A : Type 0} (p : Phase A) → (p ≡ Idle) ⊎ (p ≢ Idle)
idle_or_not p = grind (arith, common_steps)

pub none_left : {A : Type 0} (p : Phase A) → steps_left p ≡ 0 → p ≡ Idle
none_left p e = grind (arith, common_steps, steps_left)

-- a call takes at most seven steps
pub steps_few : {A : Type 0} (p : Phase A) → steps_made p + steps_left p ≤ 7
steps_few p = grind (arith, common_steps, steps_made, steps_left)

pub holds_open : {A : Type 0} (size : ℕ) (p : Phase A) (c : ℕ) → HoldsTicketOf size p c → p ≢ Idle
holds_open size p c h e = subst (λ q. HoldsTicketOf size q c) e h

-- ---- a seat that begins a call

-- a seat with an open call stays in its phase
begun_open : {A : Type 0} (st : QueueState A) (u t : ℕ) (p q : Phase A) → st.phase u ≡ q → st.phase t ≢ Idle → (begun st u p q).phase t ≡ st.phase t
begun_open st u t p q e n = grind (arith, common_steps, begun, at_else)

-- and so does any other seat
begun_else : {A : Type 0} (st : QueueState A) (u t : ℕ) (p q : Phase A) → t ≢ u → (begun st u p q).phase t ≡ st.phase t
begun_else st u t p q n = grind (arith, common_steps, begun, at_else)

begun_turn : {A : Type 0} (st : QueueState A) (u c : ℕ) (p q : Phase A) → (begun st u p q).turn c ≡ st.turn c
begun_turn st u c p q = grind (arith, common_steps, begun)

-- ---- no step goes back

out_stays : {A : Type 0} (n : ℕ) (o : Option A) → steps_left {A = A} (ticket_out n o).phase ≤ 5
out_stays n o = grind (arith, common_steps, steps_left, ticket_out)

never_rises : {A : Type 0} (size : ℕ) (st : QueueState A) (p : Phase A) → steps_left (after_phase p (next_move size st p)) ≤ steps_left p
never_rises size st p = grind (arith, common_steps, steps_left, after_phase, next_move, by_test, int_lt, out_stays, item_of)

pub step_no_more : {A : Type 0} (size : ℕ) (st : QueueState A) (s : ℕ) → steps_left ((stepped size st s).phase s) ≤ steps_left (st.phase s)
step_no_more size st s = omega (arith, never_rises size st (st.phase s), ap steps_left (step_here st s (next_move size st (st.phase s))))

-- ---- turns only rise

out_turn : {A : Type 0} (st : QueueState A) (n c : ℕ) (o : Option A) → st.turn c ≤ (written st (ticket_out n o).write).turn c
out_turn st n c o = grind (arith, common_steps, written, ticket_out)

turn_step : {A : Type 0} (size : ℕ) (st : QueueState A) (s c : ℕ) (p : Phase A) → 0 < size → IsKept size st → st.phase s ≡ p → st.turn c ≤ (move_from size st s p).turn c
turn_step size st s c p z u e = grind (arith, common_steps, move_from, IsKept, by_test, moved, int_lt, out_turn, item_of, filling, shown, by_place, emptying)

pub turn_event : {A : Type 0} (size : ℕ) (st : QueueState A) (e : QueueEvent A) (c : ℕ) → 0 < size → IsKept size st → st.turn c ≤ (happens size st e).turn c
turn_event size st e c z f = grind (arith, common_steps, happens, IsKept, begun_turn, turn_step)

-- ---- a seat that holds a ticket

-- the seat still holds the ticket, or has handed the cell on to the turn after its own
abbrev pub GoesOn : {A : Type 0} → ℕ → QueueState A → ℕ → ℕ → ℕ → Type 0
GoesOn size st t c v = HoldsTurn size st t c v ⊎ ((v < st.turn c) × (steps_left (st.phase t) ≤ 1))

still : {A : Type 0} (size : ℕ) (f : ℕ → Phase A) (t c v : ℕ) (q : Phase A) → HoldsTicketOf size q c → due size q ≡ v → HoldsTicketOf size (with_at f t q t) c × (due size (with_at f t q t) ≡ v)
still size f t c v q h d = (subst (λ p. HoldsTicketOf size p c) (sym (at_here f t q)) h, ap (due size) (at_here f t q) ∙ d)

own_step : {A : Type 0} (size : ℕ) (st : QueueState A) (t c v : ℕ) (p : Phase A) → 0 < size → IsKept size st → st.phase t ≡ p → HoldsTicketOf size p c → due size p ≡ v → GoesOn size (move_from size st t p) t c v
own_step size st t c v p z v' e h d = grind (arith, common_steps, due, move_from, IsKept, by_test, moved, still, at_same, steps_left, at_here)

-- if the phase stays the same, so does the ticket that it holds
holds_same : {A : Type 0} (size : ℕ) (st st' : QueueState A) (t c v : ℕ) → st'.phase t ≡ st.phase t → HoldsTurn size st t c v → HoldsTurn size st' t c v
holds_same size st st' t c v e h = (subst (λ q. HoldsTicketOf size q c) (sym e) h.0, ap (due size) e ∙ h.1)

-- for a seat with an open call, the event is its own step, or leaves it in its phase
pub own_or_same : {A : Type 0} (size : ℕ) (st : QueueState A) (e : QueueEvent A) (t : ℕ) → st.phase t ≢ Idle → (e ≡ Advances t) ⊎ ((happens size st e).phase t ≡ st.phase t)
own_or_same size st e t n = grind (arith, common_steps, happens, begun_open, same_or_not, step_else, next_move)

-- the event of another seat leaves it in its phase
pub other_same : {A : Type 0} (size : ℕ) (st : QueueState A) (e : QueueEvent A) (t : ℕ) → t ≢ seat_of e → (happens size st e).phase t ≡ st.phase t
other_same size st e t n = grind (arith, common_steps, seat_of, happens, begun_else, step_else, next_move)

pub goes_on_event : {A : Type 0} (size : ℕ) (st : QueueState A) (e : QueueEvent A) (t c v : ℕ) → 0 < size → IsKept size st → HoldsTurn size st t c v → GoesOn size (happens size st e) t c v
goes_on_event size st e t c v z K h = grind (arith, common_steps, own_or_same, holds_open, happens, own_step, holds_same)

pub no_more_event : {A : Type 0} (size : ℕ) (st : QueueState A) (e : QueueEvent A) (t : ℕ) → st.phase t ≢ Idle → steps_left ((happens size st e).phase t) ≤ steps_left (st.phase t)
no_more_event size st e t n = grind (arith, common_steps, own_or_same, steps_left, happens, step_no_more)
