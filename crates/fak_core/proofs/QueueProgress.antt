-- A queue core never locks up: while a call is open, some seat is unblocked, and its next step moves its call forward.
use Rattle.fak_core.specs.QueueSchedule.{after_step, stepped}
use Rattle.fak_core.proofs.Common.{Phase, Idle, TurnIn, StoreItem, SetFull, TurnOut, LoadItem, SetFree, QueueMove, QueueState, ticket_out, ◌≡◌, ◌≢◌, ◌⊎◌, ℕ, zero, suc, ◌+◌, ◌-◌, ◌*◌, ◌/◌, ◌%◌, ◌<◌, ◌≤◌, int_lt, List, Option, None, Some, refl, sym, ap, ◌∙◌, subst, inl, inr, arith, nat_tests, Kind, Fill, Take, Mark, Putting, Getting, Has, item_of, same_or_not, getting_below, putting_below, putting_unfilled, getting_untaken, contents_bounded, next_move, past_after, common_steps, add-mod_right, add-div_right, MakesProgress, SomeSeatMoves, SomeHolderMoves, AreIdleFrom, steps_left, steps_made, HoldsTicketOf, filled_or_putting, taken_or_getting}
use Rattle.fak_core.proofs.QueueKept.{shown, TakenBefore, IsKept}
use Rattle.fak_core.proofs.QueueTurns.{at_here, at_else, le_or_lt}
use Rattle.fak_core.proofs.QueueOwners.{filling, emptying, waits_fill, waits_take}
use Rattle.fak_core.proofs.QueueSteps.{by_test, found_fill, found_take}
use Rattle.fak_core.proofs.QueueReached.{draws_put}

-- ---- a step of a seat, for its own phase and for those of others

-- the phase of a seat after its move
abbrev pub after_phase : {A : Type 0} → Phase A → Option (QueueMove A) → Phase A
after_phase p None = p
after_phase p (Some m) = m.phase

pub step_here : {A : Type 0} (st : QueueState A) (s : ℕ) (o : Option (QueueMove A)) → (after_step st s o).phase s ≡ after_phase (st.phase s) o
step_here st s o = grind (arith, common_steps, after_step, at_here)

pub step_else : {A : Type 0} (st : QueueState A) (s t : ℕ) (o : Option (QueueMove A)) → t ≢ s → (after_step st s o).phase t ≡ st.phase t
step_else st s t o n = grind (arith, common_steps, after_step, at_else)

marked_more : {A : Type 0} (s : ℕ) (o : Option (Kind A)) (h : List (Mark A)) (κ : Kind A) → Has κ h → Has κ (past_after s o h)
marked_more s o h κ e = grind (arith, common_steps, past_after)

pub step_more : {A : Type 0} (st : QueueState A) (s : ℕ) (o : Option (QueueMove A)) (κ : Kind A) → Has κ st.past → Has κ (after_step st s o).past
step_more st s o κ e = grind (arith, common_steps, after_step, marked_more)

-- ---- unblocked seats

-- a call is open, and if it waits for a turn, that turn has come
abbrev pub IsUnblocked : {A : Type 0} → ℕ → List (Mark A) → Phase A → Type 0
IsUnblocked size h Idle = ⊥
IsUnblocked size h (TurnIn k x) = TakenBefore size h k
IsUnblocked size h (TurnOut k) = Has (Fill k) h
IsUnblocked size h _ = Unit {0}

pub unblocked_more : {A : Type 0} (size : ℕ) (h h' : List (Mark A)) (p : Phase A) → ((κ : Kind A) → Has κ h → Has κ h') → IsUnblocked size h p → IsUnblocked size h' p
unblocked_more size h h' p more f = grind (arith, common_steps)

out_falls : {A : Type 0} (n : ℕ) (o : Option A) (x : A) → o ≡ Some x → steps_left {A = A} (ticket_out n o).phase < 5
out_falls n o x e = grind (arith, common_steps, steps_left, ticket_out)

-- the step of an unblocked seat leaves it with fewer steps
falls : {A : Type 0} (size : ℕ) (st : QueueState A) (s : ℕ) (p : Phase A) → 0 < size → IsKept size st → st.phase s ≡ p → IsUnblocked size st.past p
    → steps_left (after_phase p (next_move size st p)) < steps_left p
falls size st s p z f e f' = grind (arith, common_steps, steps_left, next_move, IsKept, by_test, int_lt, filling, shown, nat_tests, draws_put, out_falls, item_of, emptying)

pub unblocked_falls : {A : Type 0} (size : ℕ) (st : QueueState A) (s : ℕ) → 0 < size → IsKept size st → IsUnblocked size st.past (st.phase s) → steps_left ((stepped size st s).phase s) < steps_left (st.phase s)
unblocked_falls size st s z K f = grind (arith, common_steps, steps_left, step_here, next_move, falls)

-- the call has taken one step more than n, or has ended
abbrev Counts : {A : Type 0} → ℕ → Phase A → Type 0
Counts n p = (p ≡ Idle) ⊎ (steps_made p ≡ n + 1)

out_counts : {A : Type 0} (n : ℕ) (o : Option A) (x : A) → o ≡ Some x → Counts 2 (ticket_out n o).phase
out_counts n o x e = grind (arith, common_steps, ticket_out)

-- the step of an unblocked seat counts as one more, or ends its call
counts : {A : Type 0} (size : ℕ) (st : QueueState A) (s : ℕ) (p : Phase A) → 0 < size → IsKept size st → st.phase s ≡ p → IsUnblocked size st.past p
    → Counts (steps_made p) (after_phase p (next_move size st p))
counts size st s p z f e f' = grind (arith, common_steps, steps_made, next_move, IsKept, by_test, int_lt, filling, shown, nat_tests, draws_put, out_counts, item_of, emptying)

pub step_counted : {A : Type 0} (size : ℕ) (st : QueueState A) (s : ℕ) → 0 < size → IsKept size st → IsUnblocked size st.past (st.phase s)
    → ((stepped size st s).phase s ≡ Idle) ⊎ (steps_made ((stepped size st s).phase s) ≡ steps_made (st.phase s) + 1)
step_counted size st s z K f = subst (Counts (steps_made (st.phase s))) (sym (step_here st s (next_move size st (st.phase s)))) (counts size st s (st.phase s) z K refl f)

pub unblocked_moves : {A : Type 0} (size : ℕ) (st : QueueState A) (s : ℕ) → 0 < size → IsKept size st → IsUnblocked size st.past (st.phase s) → MakesProgress size st s
unblocked_moves size st s z K f e = let down = unblocked_falls size st s z K f in let same = ap steps_left e in omega arith

-- ---- seats that hold up a waiting call

-- the turn at which the cell belongs to the seat's ticket
abbrev pub due : {A : Type 0} → ℕ → Phase A → ℕ
due size (TurnIn k x) = 2 * (k / size)
due size (StoreItem k x) = 2 * (k / size)
due size (SetFull k x) = 2 * (k / size)
due size (TurnOut k) = 2 * (k / size) + 1
due size (LoadItem k) = 2 * (k / size) + 1
due size (SetFree k) = 2 * (k / size) + 1
due size _ = 0

putting_place : {A : Type 0} (size : ℕ) (p : Phase A) (k : ℕ) (x : A) → shown p ≡ Putting k x → HoldsTicketOf size p (k % size) × (due size p ≡ 2 * (k / size))
putting_place size p k x e = grind (arith, common_steps, shown)

getting_place : {A : Type 0} (size : ℕ) (p : Phase A) (k : ℕ) → shown p ≡ Getting k → HoldsTicketOf size p (k % size) × (due size p ≡ 2 * (k / size) + 1)
getting_place size p k e = grind (arith, common_steps, shown)

-- a seat that holds a ticket inserts or deletes with it
holder : {A : Type 0} (size : ℕ) (p : Phase A) (c : ℕ) → HoldsTicketOf size p c
    → ((k : ℕ) × (x : A) × (shown p ≡ Putting k x) × (k % size ≡ c) × (due size p ≡ 2 * (k / size))) ⊎ ((k : ℕ) × (shown p ≡ Getting k) × (k % size ≡ c) × (due size p ≡ 2 * (k / size) + 1))
holder size (TurnIn k x) c h = inl (k, x, refl, h, refl)
holder size (StoreItem k x) c h = inl (k, x, refl, h, refl)
holder size (SetFull k x) c h = inl (k, x, refl, h, refl)
holder size (TurnOut k) c h = inr (k, refl, h, refl)
holder size (LoadItem k) c h = inr (k, refl, h, refl)
holder size (SetFree k) c h = inr (k, refl, h, refl)
holder size _ c h = absurd h

-- the turn of a seat that holds a ticket has not passed
pub not_passed : {A : Type 0} (size : ℕ) (st : QueueState A) (s c : ℕ) → IsKept size st → HoldsTicketOf size (st.phase s) c → st.turn c ≤ due size (st.phase s)
not_passed size st s c K h = grind (arith, common_steps, holder, le_or_lt, putting_unfilled, getting_untaken)

-- a seat whose turn has come is unblocked
pub turn_unblocks : {A : Type 0} (size : ℕ) (st : QueueState A) (c : ℕ) (p : Phase A) → 0 < size → IsKept size st → HoldsTicketOf size p c → st.turn c ≡ due size p → IsUnblocked size st.past p
turn_unblocks size st c p z f h t = grind (arith, common_steps, IsKept, found_fill, found_take)

-- a waiting deletion is held up by the insertion of its ticket
filler : {A : Type 0} (size : ℕ) (st : QueueState A) (s k : ℕ) → IsKept size st → st.phase s ≡ TurnOut k → (Has (Fill k) st.past → ⊥) → (t : ℕ) × (x : A) × (shown (st.phase t) ≡ Putting k x)
filler size st s k K e un = grind (arith, common_steps, getting_below, shown, contents_bounded, filled_or_putting)

-- a waiting insertion is held up by the deletion of the same cell one round before
taker : {A : Type 0} (size : ℕ) (st : QueueState A) (s k j : ℕ) (x : A) → IsKept size st → st.phase s ≡ TurnIn k x → k ≡ j + size → (Has (Take j) st.past → ⊥) → (t : ℕ) × (shown (st.phase t) ≡ Getting j)
taker size st s k j x K e is un = grind (arith, common_steps, putting_below, shown, contents_bounded, taken_or_getting)

-- the seat holds a ticket of this cell, and its turn is this one
abbrev pub HoldsTurn : {A : Type 0} → ℕ → QueueState A → ℕ → ℕ → ℕ → Type 0
HoldsTurn size st t c v = HoldsTicketOf size (st.phase t) c × (due size (st.phase t) ≡ v)

-- while a seat's turn has not come, another seat holds the turn before
before : {A : Type 0} (size : ℕ) (st : QueueState A) (s c v : ℕ) (p : Phase A) → 0 < size → IsKept size st → st.phase s ≡ p → HoldsTicketOf size p c → st.turn c < due size p → due size p ≡ v + 1
    → (t : ℕ) × HoldsTurn size st t c v
before size st s c v (TurnIn k x) z K e h l is =
    let words = ap st.turn h in
    let ne : st.turn (k % size) ≢ 2 * (k / size) = λ q. omega arith in
    let w = waits_fill size st s k x z K (sym (K.phases s) ∙ ap shown e) ne in
    let t = taker size st s k w.0 x K e w.1 w.2 in
    let place = getting_place size (st.phase t.0) w.0 t.1 in
    let cell : w.0 % size ≡ c = sym (add-mod_right w.0 size) ∙ (ap (λ i. i % size) (sym w.1) ∙ h) in
    let round : k / size ≡ w.0 / size + 1 = ap (λ i. i / size) w.1 ∙ add-div_right w.0 z in
    (t.0, (subst (HoldsTicketOf size (st.phase t.0)) cell place.0, omega (arith, place.1)))
before size st s c v (TurnOut k) z K e h l is = grind (arith, common_steps, filler, waits_take, shown, putting_place)
before size st s c v (StoreItem k x) z K e h l is = grind (arith, common_steps, filling, shown)
before size st s c v (SetFull k x) z K e h l is = grind (arith, common_steps, filling, shown)
before size st s c v (LoadItem k) z K e h l is = grind (arith, common_steps, emptying, shown)
before size st s c v (SetFree k) z K e h l is = grind (arith, common_steps, emptying, shown)
before size st s c v _ z K e h l is = absurd h

-- each turn from the cell's word up to a seat's own is held by some seat
pub held : {A : Type 0} (size : ℕ) (st : QueueState A) (c v : ℕ) → 0 < size → IsKept size st → (n s : ℕ) → HoldsTurn size st s c (v + n) → st.turn c ≤ v → (t : ℕ) × HoldsTurn size st t c v
held size st c v z K zero s h l = (s, (h.0, omega (arith, h.1)))
held size st c v z K (suc n) s h l =
    let w = before size st s c (v + n) (st.phase s) z K refl h.0 (omega (arith, h.1)) (omega (arith, h.1)) in
    held size st c v z K n w.0 w.1 l

-- of the seats that hold tickets of one cell, one is unblocked
pub unblocked_at : {A : Type 0} (size : ℕ) (st : QueueState A) (s c : ℕ) → 0 < size → IsKept size st → HoldsTicketOf size (st.phase s) c → (t : ℕ) × IsUnblocked size st.past (st.phase t) × HoldsTicketOf size (st.phase t) c
unblocked_at size st s c z K h =
    let l = not_passed size st s c K h in
    let w = held size st c (st.turn c) z K (due size (st.phase s) - st.turn c) s (h, omega arith) (omega arith) in
    (w.0, turn_unblocks size st c (st.phase w.0) z K w.1.0 (sym w.1.1), w.1.0)

-- while a call is open, some seat is unblocked
someone : {A : Type 0} (size : ℕ) (st : QueueState A) (s : ℕ) (p : Phase A) → 0 < size → IsKept size st → st.phase s ≡ p → p ≢ Idle → (t : ℕ) × IsUnblocked size st.past (st.phase t)
someone size st s Idle z K e n = absurd (n refl)
someone size st s (TurnIn k x) z K e n = let w = unblocked_at size st s (k % size) z K (subst (λ p. HoldsTicketOf size p (k % size)) (sym e) refl) in (w.0, w.1)
someone size st s (TurnOut k) z K e n = let w = unblocked_at size st s (k % size) z K (subst (λ p. HoldsTicketOf size p (k % size)) (sym e) refl) in (w.0, w.1)
someone size st s _ z K e n = (s, subst (IsUnblocked size st.past) (sym e) tt)

pub someone_unblocked : {A : Type 0} (size : ℕ) (st : QueueState A) (s : ℕ) → 0 < size → IsKept size st → st.phase s ≢ Idle → (t : ℕ) × IsUnblocked size st.past (st.phase t)
someone_unblocked size st s z K n = someone size st s (st.phase s) z K refl n

-- an unblocked seat is one of the seats with calls
unblocked_below : {A : Type 0} (size seats : ℕ) (st : QueueState A) (s : ℕ) → AreIdleFrom seats st → IsUnblocked size st.past (st.phase s) → s < seats
unblocked_below size seats st s idle u = elim (le_or_lt seats s) [
  | inl out ↦ absurd (subst (IsUnblocked size st.past) (idle s out) u)
  | inr l ↦ l
]

pub some_moves : {A : Type 0} (size seats : ℕ) (st : QueueState A) (s : ℕ) → 0 < size → IsKept size st → AreIdleFrom seats st → st.phase s ≢ Idle → SomeSeatMoves size seats st
some_moves size seats st s z K idle n = let t = someone_unblocked size st s z K n in (t.0, unblocked_below size seats st t.0 idle t.1, unblocked_moves size st t.0 z K t.1)

pub some_holder_moves : {A : Type 0} (size seats : ℕ) (st : QueueState A) (s c : ℕ) → 0 < size → IsKept size st → AreIdleFrom seats st → HoldsTicketOf size (st.phase s) c → SomeHolderMoves size seats st c
some_holder_moves size seats st s c z K idle h = let t = unblocked_at size st s c z K h in (t.0, unblocked_below size seats st t.0 idle t.1, t.2, unblocked_moves size st t.0 z K t.1)

-- ---- a step that changes nothing

-- a seat is unblocked, or its step leaves it in its phase
pub unblocked_or_stays : {A : Type 0} (size : ℕ) (st : QueueState A) (p : Phase A) → 0 < size → IsKept size st → IsUnblocked size st.past p ⊎ (after_phase p (next_move size st p) ≡ p)
unblocked_or_stays size st p z e = grind (arith, common_steps, next_move, IsKept, same_or_not, found_fill, by_test, nat_tests, found_take)

pub moves_unblocked : {A : Type 0} (size : ℕ) (st : QueueState A) (s : ℕ) → 0 < size → IsKept size st → MakesProgress size st s → IsUnblocked size st.past (st.phase s)
moves_unblocked size st s z K g = grind (arith, common_steps, unblocked_or_stays, step_here, next_move)

-- an unblocked seat stays unblocked while others step
pub unblocked_stays : {A : Type 0} (size : ℕ) (st : QueueState A) (s u : ℕ) → s ≢ u → IsUnblocked size st.past (st.phase s) → IsUnblocked size (stepped size st u).past ((stepped size st u).phase s)
unblocked_stays size st s u n f = grind (arith, common_steps, next_move, after_step, step_else, unblocked_more, step_more)

-- a seat with an open call and without a ticket is unblocked
pub ticketless_unblocked : {A : Type 0} (size : ℕ) (h : List (Mark A)) (p : Phase A) → p ≢ Idle → ((c : ℕ) → HoldsTicketOf size p c → ⊥) → IsUnblocked size h p
ticketless_unblocked size h Idle n un = absurd (n refl)
ticketless_unblocked size h (TurnIn k x) n un = absurd (un (k % size) refl)
ticketless_unblocked size h (TurnOut k) n un = absurd (un (k % size) refl)
ticketless_unblocked size h _ n un = tt
