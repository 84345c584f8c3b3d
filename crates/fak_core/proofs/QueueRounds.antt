-- Rounds of events: each open call ends within few of them.
use Rattle.std.proofs.lemmas.List.Elements.{All-cons, All-nil, All-replicate, All-weaker}
use Rattle.std.proofs.Math.ListN.{length-replicate}
use Rattle.std.specs.List.{All, Contains}
use Rattle.fak_core.specs.QueueSchedule.{QueueEvent, Advances, happens, run, stepped}
use Rattle.fak_core.proofs.Common.{Phase, Idle, BackUp, TurnIn, StoreItem, SetFull, EndInsert, BackLow, TurnOut, LoadItem, SetFree, EndDelete, SetShut, QueueState, Mark, ◌%◌, All-head, All-tail, replicate, next_move, ◌≡◌, ◌≢◌, ◌⊎◌, ℕ, zero, suc, ◌+◌, ◌-◌, ◌*◌, ◌<◌, ◌≤◌, List, [], ◌∷◌, length, refl, sym, ap, ◌∙◌, subst, inl, inr, arith, same_or_not, common_steps, min, steps_left, HoldsTicketOf, AreIdleFrom, EachSteps, IsRound, IsIdleOnce, IsIdleWithin, IsAdvance, after_rounds, round_robin, seat_of, Some, slice_get}
use Rattle.fak_core.proofs.QueueKept.{IsKept}
use Rattle.fak_core.proofs.QueueTurns.{le_or_lt}
use Rattle.fak_core.proofs.QueueSteps.{kept_event, kept_run}
use Rattle.fak_core.proofs.QueueProgress.{after_phase, step_here, due, HoldsTurn, IsUnblocked, unblocked_falls, not_passed, turn_unblocks, held}
use Rattle.fak_core.proofs.QueueHolders.{below, few_turns}
use Rattle.fak_core.proofs.QueueEvents.{idle_or_not, none_left, steps_few, holds_open, turn_event, other_same, goes_on_event, no_more_event}

pub contains_cases : {X : Type 0} (x y : X) (ys : List X) → Contains (y ∷ ys) x → (y ≡ x) ⊎ Contains ys x
contains_cases x y ys v = grind (arith, common_steps)

pub contains_none : {X : Type 0} (x : X) → Contains [] x → ⊥
contains_none x (k, l, e) = omega arith

-- ---- what stays true until the seat is idle

idle_first : {A : Type 0} (size : ℕ) (es : List (QueueEvent A)) (st : QueueState A) (s : ℕ) → st.phase s ≡ Idle → IsIdleOnce size es st s
idle_first size [] st s e = e
idle_first size (d ∷ es) st s e = inl e

idle_now : {A : Type 0} (size : ℕ) (rs : List (List (QueueEvent A))) (st : QueueState A) (s : ℕ) → st.phase s ≡ Idle → IsIdleWithin size rs st s
idle_now size [] st s e = e
idle_now size (r ∷ rs) st s e = inl (idle_first size r st s e)

sooner : {X Y Z : Type 0} → Y ⊎ Z → (X ⊎ Y) ⊎ Z
sooner e = grind (arith, common_steps)

until : {A : Type 0} (size s : ℕ) (P : QueueState A → Type 0) → 0 < size → ((st : QueueState A) (e : QueueEvent A) → IsKept size st → st.phase s ≢ Idle → P st → P (happens size st e))
    → (es : List (QueueEvent A)) (st : QueueState A) → IsKept size st → P st → IsIdleOnce size es st s ⊎ P (run size es st)
until size s P z step [] st K p = inr p
until size s P z step (e ∷ es) st K p = elim (idle_or_not (st.phase s)) [
  | inl i ↦ inl (inl i)
  | inr n ↦ sooner (until size s P z step es (happens size st e) (kept_event size st e z K) (step st e K n p))
]

-- the seat has at most this many steps left
pub few_left : {A : Type 0} (size s most : ℕ) → 0 < size → (es : List (QueueEvent A)) (st : QueueState A) → IsKept size st → steps_left (st.phase s) ≤ most → IsIdleOnce size es st s ⊎ (steps_left ((run size es st).phase s) ≤ most)
few_left {A} size s most z es st K l = until size s (λ (t : QueueState A). steps_left (t.phase s) ≤ most) z (λ t e kept n few. omega (arith, no_more_event size t e s n, few)) es st K l

-- a seat has at most `most` steps left after its own step, if it is unblocked whenever it has `suc most` left
pub one_less : {A : Type 0} (size s most : ℕ) → 0 < size → ((st : QueueState A) → IsKept size st → st.phase s ≢ Idle → steps_left (st.phase s) ≡ suc most → IsUnblocked size st.past (st.phase s))
    → (es : List (QueueEvent A)) (st : QueueState A) → IsKept size st → Contains es (Advances s) → steps_left (st.phase s) ≤ suc most → IsIdleOnce size es st s ⊎ (steps_left ((run size es st).phase s) ≤ most)
one_less {A} size s most z unblocks [] st K has l = absurd (contains_none {X = QueueEvent A} (Advances s) has)
one_less {A} size s most z unblocks (e ∷ es) st K has l = elim (idle_or_not (st.phase s)) [
  | inl i ↦ inl (inl i)
  | inr n ↦ elim (contains_cases {X = QueueEvent A} (Advances s) e es has) [
    | inl now ↦ (let down : steps_left ((happens size st (Advances s)).phase s) ≤ most = elim (le_or_lt (steps_left (st.phase s)) most) [
      | inl few ↦ omega (arith, no_more_event size st (Advances s) s n)
      | inr more ↦ omega (arith, unblocked_falls size st s z K (unblocks st K n (omega arith)))
    ] in
        sooner (few_left size s most z es (happens size st e) (kept_event size st e z K) (subst (λ d. steps_left ((happens size st d).phase s) ≤ most) (sym now) down)))
    | inr then ↦ sooner (one_less size s most z unblocks es (happens size st e) (kept_event size st e z K) then (omega (arith, no_more_event size st e s n)))
  ]
]

idle_last : {A : Type 0} (size : ℕ) (es : List (QueueEvent A)) (st : QueueState A) (s : ℕ) → (run size es st).phase s ≡ Idle → IsIdleOnce size es st s
idle_last size [] st s e = e
idle_last size (d ∷ es) st s e = inr (idle_last size es (happens size st d) s e)

-- ---- seats that never wait

last_unblocked : {A : Type 0} (size : ℕ) (h : List (Mark A)) (p : Phase A) → steps_left p ≡ 1 → IsUnblocked size h p
last_unblocked size h p l = grind (arith, common_steps, steps_left, IsUnblocked)

early_unblocked : {A : Type 0} (size : ℕ) (h : List (Mark A)) (p : Phase A) → 5 ≤ steps_left p → IsUnblocked size h p
early_unblocked size h p l = grind (arith, common_steps, steps_left, IsUnblocked)

-- the last step of a call
low_ends : {A : Type 0} (size : ℕ) (es : List (QueueEvent A)) (st : QueueState A) (s : ℕ) → 0 < size → IsKept size st → Contains es (Advances s) → steps_left (st.phase s) ≤ 1 → IsIdleOnce size es st s
low_ends size es st s z K has l = elim (one_less size s 0 z (λ t kept n e. last_unblocked size t.past (t.phase s) e) es st K has l) [
  | inl once ↦ once
  | inr few ↦ idle_last size es st s (none_left ((run size es st).phase s) (omega arith))
]

-- ---- a cell's turn comes

holds_left : {A : Type 0} (size : ℕ) (p : Phase A) (c : ℕ) → HoldsTicketOf size p c → (2 ≤ steps_left p) × (steps_left p ≤ 4)
holds_left size p c h = grind (arith, common_steps, steps_left)

turn_run : {A : Type 0} (size : ℕ) (es : List (QueueEvent A)) (st : QueueState A) (c : ℕ) → 0 < size → IsKept size st → st.turn c ≤ (run size es st).turn c
turn_run size [] st c z K = omega arith
turn_run size (e ∷ es) st c z K = omega (arith, turn_event size st e c z K, turn_run size es (happens size st e) c z (kept_event size st e z K))

-- the cell has gone on, or the seat that holds its turn hands it on after at most r more steps
abbrev Owes : {A : Type 0} → ℕ → QueueState A → ℕ → ℕ → ℕ → ℕ → Type 0
Owes size st t c v r = (v < st.turn c) ⊎ (HoldsTurn size st t c v × (steps_left (st.phase t) ≤ r))

owes_event : {A : Type 0} (size : ℕ) (st : QueueState A) (e : QueueEvent A) (t c v r : ℕ) → 0 < size → IsKept size st → Owes size st t c v r → Owes size (happens size st e) t c v r
owes_event size st e t c v r z e' f = grind (arith, common_steps, happens, IsKept, turn_event, goes_on_event, no_more_event, holds_open)

owes_own : {A : Type 0} (size : ℕ) (st : QueueState A) (t c v r : ℕ) → 0 < size → IsKept size st → v ≤ st.turn c → Owes size st t c v (suc r) → Owes size (happens size st (Advances t)) t c v r
owes_own size st t c v r z K b (inl l) = inl (omega (arith, turn_event size st (Advances t) c z K))
owes_own size st t c v r z K b (inr h) = grind (arith, common_steps, goes_on_event, not_passed, turn_unblocks, unblocked_falls)

owes_stay : {A : Type 0} (size : ℕ) (es : List (QueueEvent A)) (st : QueueState A) (t c v r : ℕ) → 0 < size → IsKept size st → Owes size st t c v r → Owes size (run size es st) t c v r
owes_stay size [] st t c v r z K o = o
owes_stay size (e ∷ es) st t c v r z K o = owes_stay size es (happens size st e) t c v r z (kept_event size st e z K) (owes_event size st e t c v r z K o)

owes_run : {A : Type 0} (size : ℕ) (es : List (QueueEvent A)) (st : QueueState A) (t c v r : ℕ) → 0 < size → IsKept size st → v ≤ st.turn c → Contains es (Advances t) → Owes size st t c v (suc r) → Owes size (run size es st) t c v r
owes_run {A} size [] st t c v r z K b has o = absurd (contains_none {X = QueueEvent A} (Advances t) has)
owes_run {A} size (e ∷ es) st t c v r z K b has o = elim (contains_cases {X = QueueEvent A} (Advances t) e es has) [
  | inl now ↦ owes_stay size es (happens size st e) t c v r z (kept_event size st e z K) (subst (λ d. Owes size (happens size st d) t c v r) (sym now) (owes_own size st t c v r z K b o))
  | inr then ↦ owes_run size es (happens size st e) t c v r z (kept_event size st e z K) (omega (arith, turn_event size st e c z K)) then (owes_event size st e t c v (suc r) z K o)
]

-- the turn of a cell rises within three rounds
turn_rises : {A : Type 0} (size : ℕ) (a b d : List (QueueEvent A)) (st : QueueState A) (t c : ℕ) → 0 < size → IsKept size st → HoldsTurn size st t c (st.turn c)
    → Contains a (Advances t) → Contains b (Advances t) → Contains d (Advances t) → st.turn c < (run size d (run size b (run size a st))).turn c
turn_rises {A} size a b d st t c z K h in_a in_b in_d =
    let v = st.turn c in
    let st1 = run size a st in let K1 = kept_run size a st z K in
    let st2 = run size b st1 in let K2 = kept_run size b st1 z K1 in
    let up1 = turn_run size a st c z K in let up2 = turn_run size b st1 c z K1 in
    let first : Owes size st t c v 4 = inr (h, (holds_left size (st.phase t) c h.0).1) in
    let o1 : Owes size st1 t c v 3 = owes_run size a st t c v 3 z K (omega arith) in_a first in
    let o2 : Owes size st2 t c v 2 = owes_run size b st1 t c v 2 z K1 (omega arith) in_b o1 in
    let o3 : Owes size (run size d st2) t c v 1 = owes_run size d st2 t c v 1 z K2 (omega arith) in_d o2 in
    elim o3 [ inl l ↦ l | inr o ↦ absurd (omega (arith, (holds_left size ((run size d st2).phase t) c o.0.0).0, o.1)) ]

-- ---- a call that holds a ticket ends

-- the seat's call has at most one step left, or the seat holds its ticket
abbrev Closing : {A : Type 0} → ℕ → QueueState A → ℕ → ℕ → ℕ → Type 0
Closing size st s c n = (steps_left (st.phase s) ≤ 1) ⊎ HoldsTurn size st s c n

closing_event : {A : Type 0} (size : ℕ) (st : QueueState A) (e : QueueEvent A) (s c n : ℕ) → 0 < size → IsKept size st → st.phase s ≢ Idle → Closing size st s c n → Closing size (happens size st e) s c n
closing_event size st e s c n z v is_open f = grind (arith, common_steps, happens, IsKept, no_more_event, goes_on_event)

-- each turn of the cell up to this one is held by a fair seat
abbrev AllHeld : {A : Type 0} → (ℕ → Type 0) → ℕ → QueueState A → ℕ → ℕ → Type 0
AllHeld Fair size st c n = (v : ℕ) → st.turn c ≤ v → v ≤ n → (t : ℕ) × Fair t × HoldsTurn size st t c v

held_event : {A : Type 0} (Fair : ℕ → Type 0) (size : ℕ) (st : QueueState A) (e : QueueEvent A) (c n : ℕ) → 0 < size → IsKept size st → AllHeld Fair size st c n → AllHeld Fair size (happens size st e) c n
held_event Fair size st e c n z K all v l b =
    let w = all v (omega (arith, turn_event size st e c z K, l)) b in
    elim (goes_on_event size st e w.0 c v z K w.2) [ inl on ↦ (w.0, w.1, on) | inr past ↦ absurd (omega (arith, past.0, l)) ]

held_run : {A : Type 0} (Fair : ℕ → Type 0) (size : ℕ) (es : List (QueueEvent A)) (st : QueueState A) (c n : ℕ) → 0 < size → IsKept size st → AllHeld Fair size st c n → AllHeld Fair size (run size es st) c n
held_run Fair size [] st c n z K all = all
held_run Fair size (e ∷ es) st c n z K all = held_run Fair size es (happens size st e) c n z (kept_event size st e z K) (held_event Fair size st e c n z K all)

soon : {A : Type 0} (size : ℕ) (rs : List (List (QueueEvent A))) (st : QueueState A) (s : ℕ) → 0 < size → IsKept size st → All (λ (r : List (QueueEvent A)). Contains r (Advances s)) rs → 1 ≤ length rs → steps_left (st.phase s) ≤ 1 → IsIdleWithin size rs st s
soon size rs st s z f fair more l = grind (arith, common_steps, length, steps_left, IsKept, IsIdleWithin, low_ends)

-- after a round the seat has been idle, or what is known after it leads on
then : {A : Type 0} (size : ℕ) (P : QueueState A → Type 0) (r : List (QueueEvent A)) (rs : List (List (QueueEvent A))) (st : QueueState A) (s : ℕ) → IsIdleOnce size r st s ⊎ P (run size r st)
    → (P (run size r st) → IsIdleWithin size rs (run size r st) s) → IsIdleWithin size (r ∷ rs) st s
then size P r rs st s u go = grind (arith, common_steps, run, IsIdleOnce, IsIdleWithin)

pub cell_ends : {A : Type 0} (Fair : ℕ → Type 0) (size s c n : ℕ) → 0 < size → Fair s → (d : ℕ) (rs : List (List (QueueEvent A))) (st : QueueState A) → IsKept size st → Closing size st s c n → AllHeld Fair size st c n
    → n + 1 ≤ st.turn c + d → All (EachSteps Fair) rs → 3 * d + 1 ≤ length rs → IsIdleWithin size rs st s
cell_ends {A} Fair size s c n z own d rs st K (inl few) all near fair more = grind (arith, common_steps, soon)
cell_ends Fair size s c n z own zero rs st K (inr h) all near fair more = let at = not_passed size st s c K h.0 in absurd (omega (arith, h.1))
cell_ends Fair size s c n z own (suc d) [] st K (inr h) all near fair more = absurd (omega arith)
cell_ends Fair size s c n z own (suc d) (r1 ∷ []) st K (inr h) all near fair more = absurd (omega arith)
cell_ends Fair size s c n z own (suc d) (r1 ∷ r2 ∷ []) st K (inr h) all near fair more = absurd (omega arith)
cell_ends {A} Fair size s c n z own (suc d) (r1 ∷ r2 ∷ r3 ∷ rs) st K (inr h) all near fair more =
    let P : QueueState A → Type 0 = λ t. Closing size t s c n in
    let step : (t : QueueState A) (e : QueueEvent A) → IsKept size t → t.phase s ≢ Idle → P t → P (happens size t e) = λ t e kept is_open p. closing_event size t e s c n z kept is_open p in
    let at = not_passed size st s c K h.0 in
    let w = all (st.turn c) (omega arith) (omega (arith, h.1)) in
    let f1 = All-head (EachSteps Fair) r1 (r2 ∷ r3 ∷ rs) fair in let fair1 = All-tail (EachSteps Fair) r1 (r2 ∷ r3 ∷ rs) fair in
    let f2 = All-head (EachSteps Fair) r2 (r3 ∷ rs) fair1 in let fair2 = All-tail (EachSteps Fair) r2 (r3 ∷ rs) fair1 in
    let f3 = All-head (EachSteps Fair) r3 rs fair2 in let fair3 = All-tail (EachSteps Fair) r3 rs fair2 in
    let st1 = run size r1 st in let K1 = kept_run size r1 st z K in
    let st2 = run size r2 st1 in let K2 = kept_run size r2 st1 z K1 in
    let st3 = run size r3 st2 in let K3 = kept_run size r3 st2 z K2 in
    let up = turn_rises size r1 r2 r3 st w.0 c z K w.2 (f1 w.0 w.1) (f2 w.0 w.1) (f3 w.0 w.1) in
    let all3 = held_run Fair size r3 st2 c n z K2 (held_run Fair size r2 st1 c n z K1 (held_run Fair size r1 st c n z K all)) in
    then size P r1 (r2 ∷ r3 ∷ rs) st s (until size s P z step r1 st K (inr h)) (λ p1.
    then size P r2 (r3 ∷ rs) st1 s (until size s P z step r2 st1 K1 p1) (λ p2.
    then size P r3 rs st2 s (until size s P z step r3 st2 K2 p2) (λ p3.
    cell_ends Fair size s c n z own d rs st3 K3 p3 all3 (omega arith) fair3 (omega arith))))

-- ---- every call ends

data Place {A : Type 0} (size : ℕ) (p : Phase A) : Type 0 where
  Out : p ≡ Idle → Place size p
  Early : 5 ≤ steps_left p → Place size p
  Late : steps_left p ≤ 1 → Place size p
  Holding : (c : ℕ) → HoldsTicketOf size p c → Place size p

place : {A : Type 0} (size : ℕ) (p : Phase A) → Place size p
place size Idle = Out refl
place size (TurnIn k x) = Holding (k % size) refl
place size (StoreItem k x) = Holding (k % size) refl
place size (SetFull k x) = Holding (k % size) refl
place size (TurnOut k) = Holding (k % size) refl
place size (LoadItem k) = Holding (k % size) refl
place size (SetFree k) = Holding (k % size) refl
place size (BackUp x) = Late (omega arith)
place size (EndInsert k) = Late (omega arith)
place size BackLow = Late (omega arith)
place size (EndDelete k) = Late (omega arith)
place size SetShut = Late (omega arith)
place size _ = Early (omega arith)

idle_event : {A : Type 0} (size seats : ℕ) (st : QueueState A) (e : QueueEvent A) → seat_of e < seats → AreIdleFrom seats st → AreIdleFrom seats (happens size st e)
idle_event size seats st e l idle s b = other_same size st e s (λ q. omega arith) ∙ idle s b

idle_run : {A : Type 0} (size seats : ℕ) (es : List (QueueEvent A)) (st : QueueState A) → All (λ (e : QueueEvent A). seat_of e < seats) es → AreIdleFrom seats st → AreIdleFrom seats (run size es st)
idle_run size seats [] st all idle = idle
idle_run {A} size seats (e ∷ es) st all idle =
    idle_run size seats es (happens size st e) (All-tail (λ (e : QueueEvent A). seat_of e < seats) e es all) (idle_event size seats st e (All-head (λ (e : QueueEvent A). seat_of e < seats) e es all) idle)

pub holding_ends : {A : Type 0} (Fair : ℕ → Type 0) (size most s c : ℕ) (rs : List (List (QueueEvent A))) (st : QueueState A) → 0 < size → IsKept size st → HoldsTicketOf size (st.phase s) c
    → (due size (st.phase s) + 1) - st.turn c ≤ most → ((t : ℕ) → HoldsTicketOf size (st.phase t) c → Fair t) → All (EachSteps Fair) rs → 3 * most + 1 ≤ length rs → IsIdleWithin size rs st s
holding_ends Fair size most s c rs st z K h few fair_of fair more =
    let n = due size (st.phase s) in
    let at = not_passed size st s c K h in
    cell_ends Fair size s c n z (fair_of s h) ((n + 1) - st.turn c) rs st K (inr (h, refl))
    (λ v a b. let w = held size st c v z K (n - v) s (h, omega arith) a in (w.0, fair_of w.0 w.1.0, w.1))
    (omega arith) fair (omega arith)

call_by : {A : Type 0} (size seats s : ℕ) → 0 < size → s < seats → (i : ℕ) (rs : List (List (QueueEvent A))) (st : QueueState A) → Place size (st.phase s) → IsKept size st → AreIdleFrom seats st → steps_left (st.phase s) ≤ 4 + i
    → All (IsRound seats) rs → i + (3 * min size seats + 1) ≤ length rs → IsIdleWithin size rs st s
call_by size seats s z b i rs st (Out e) K idle l rounds more = idle_now size rs st s e
call_by {A} size seats s z b i rs st (Late few) K idle l rounds more =
    soon size rs st s z K (All-weaker (IsRound seats) (λ (r : List (QueueEvent A)). Contains r (Advances s)) (λ r f. f.each s b) rs rounds) (omega arith) few
call_by {A} size seats s z b i rs st (Holding c h) K idle l rounds more =
    holding_ends (λ t. t < seats) size (min size seats) s c rs st z K h (few_turns size seats st s c z K idle h) (λ t k. below size seats st t c idle k)
    (All-weaker (IsRound seats) (EachSteps {A = A} (λ t. t < seats)) (λ r f. f.each) rs rounds) (omega arith)
call_by size seats s z b zero rs st (Early many) K idle l rounds more = absurd (omega arith)
call_by size seats s z b (suc i) [] st (Early many) K idle l rounds more = absurd (omega arith)
call_by {A} size seats s z b (suc i) (r ∷ rs) st (Early many) K idle l rounds more =
    let f : IsRound seats r = All-head (IsRound seats) r rs rounds in
    then size (λ (t : QueueState A). steps_left (t.phase s) ≤ 4 + i) r rs st s
    (one_less size s (4 + i) z (λ t kept n e. early_unblocked size t.past (t.phase s) (omega arith)) r st K (f.each s b) (omega arith))
    (λ few. call_by size seats s z b i rs (run size r st) (place size ((run size r st).phase s)) (kept_run size r st z K) (idle_run size seats r st f.within idle) few (All-tail (IsRound seats) r rs rounds) (omega arith))

pub call_ends : {A : Type 0} (size seats s : ℕ) (rs : List (List (QueueEvent A))) (st : QueueState A) → 0 < size → IsKept size st → AreIdleFrom seats st → All (IsRound seats) rs → 3 * min size seats + 4 ≤ length rs → IsIdleWithin size rs st s
call_ends size seats s rs st z K idle rounds more = elim (le_or_lt seats s) [
  | inl b ↦ idle_now size rs st s (idle s b)
  | inr l ↦ call_by size seats s z l 3 rs st (place size (st.phase s)) K idle (omega (arith, steps_few (st.phase s))) rounds (omega arith)
]

-- ---- if no call begins

-- an idle seat stays idle
idle_stays : {A : Type 0} (size : ℕ) (es : List (QueueEvent A)) (st : QueueState A) (s : ℕ) → All (IsAdvance {A = A}) es → st.phase s ≡ Idle → (run size es st).phase s ≡ Idle
idle_stays size [] st s only i = i
idle_stays {A} size (e ∷ es) st s only i = idle_stays size es (happens size st e) s (All-tail (IsAdvance {A = A}) e es only) (advanced e (All-head (IsAdvance {A = A}) e es only))
  where
    advanced : (e : QueueEvent A) → IsAdvance e → (happens size st e).phase s ≡ Idle
    advanced e a = grind (arith, common_steps, happens, IsAdvance, same_or_not, stepped, step_here, next_move, after_phase, other_same)

once_then : {A : Type 0} (size : ℕ) (es : List (QueueEvent A)) (st : QueueState A) (s : ℕ) → All (IsAdvance {A = A}) es → IsIdleOnce size es st s → (run size es st).phase s ≡ Idle
once_then size [] st s only i = i
once_then size (e ∷ es) st s only (inl i) = idle_stays size (e ∷ es) st s only i
once_then {A} size (e ∷ es) st s only (inr more) = once_then size es (happens size st e) s (All-tail (IsAdvance {A = A}) e es only) more

rounds_stay : {A : Type 0} (size : ℕ) (rs : List (List (QueueEvent A))) (st : QueueState A) (s : ℕ) → All (λ (r : List (QueueEvent A)). All (IsAdvance {A = A}) r) rs → st.phase s ≡ Idle → (after_rounds size rs st).phase s ≡ Idle
rounds_stay size [] st s only i = i
rounds_stay {A} size (r ∷ rs) st s only i =
    let Only : List (QueueEvent A) → Type 0 = λ r. All (IsAdvance {A = A}) r in
    rounds_stay size rs (run size r st) s (All-tail Only r rs only) (idle_stays size r st s (All-head Only r rs only) i)

within_then : {A : Type 0} (size : ℕ) (rs : List (List (QueueEvent A))) (st : QueueState A) (s : ℕ) → All (λ (r : List (QueueEvent A)). All (IsAdvance {A = A}) r) rs → IsIdleWithin size rs st s → (after_rounds size rs st).phase s ≡ Idle
within_then size [] st s only i = i
within_then {A} size (r ∷ rs) st s only (inl once) =
    let Only : List (QueueEvent A) → Type 0 = λ r. All (IsAdvance {A = A}) r in
    rounds_stay size rs (run size r st) s (All-tail Only r rs only) (once_then size r st s (All-head Only r rs only) once)
within_then {A} size (r ∷ rs) st s only (inr more) =
    let Only : List (QueueEvent A) → Type 0 = λ r. All (IsAdvance {A = A}) r in
    within_then size rs (run size r st) s (All-tail Only r rs only) more

pub comes_to_rest : {A : Type 0} (size seats : ℕ) (rs : List (List (QueueEvent A))) (st : QueueState A) → 0 < size → IsKept size st → AreIdleFrom seats st → All (IsRound seats) rs → All (λ (r : List (QueueEvent A)). All (IsAdvance {A = A}) r) rs
    → 3 * min size seats + 4 ≤ length rs → AreIdleFrom 0 (after_rounds size rs st)
comes_to_rest size seats rs st z K idle rounds only more s b = within_then size rs st s only (call_ends size seats s rs st z K idle rounds more)

-- ---- round robin

pub round_robin_each : {A : Type 0} (n s : ℕ) → s < n → Contains (round_robin {A = A} n) (Advances s)
round_robin_each zero s l = absurd (omega arith)
round_robin_each {A} (suc n) s l = elim (same_or_not s n) [
  | inl q ↦ (0, omega arith, ap (λ i. Advances i) (sym q))
  | inr ne ↦ (let w = round_robin_each {A = A} n s (omega arith) in (suc w.0, omega (arith, w.1), w.2))
]

pub round_robin_within : {A : Type 0} (n most : ℕ) → n ≤ most → All (λ (e : QueueEvent A). seat_of e < most) (round_robin n)
round_robin_within {A} zero most l = All-nil (λ (e : QueueEvent A). seat_of e < most)
round_robin_within {A} (suc n) most l = All-cons (λ (e : QueueEvent A). seat_of e < most) (Advances n) (round_robin n) (omega arith) (round_robin_within n most (omega arith))

round_robin_only : {A : Type 0} (n : ℕ) → All (IsAdvance {A = A}) (round_robin n)
round_robin_only {A} zero = All-nil (IsAdvance {A = A})
round_robin_only {A} (suc n) = All-cons (IsAdvance {A = A}) (Advances n) (round_robin n) tt (round_robin_only n)

pub round_robin_rests : {A : Type 0} (size seats n : ℕ) (st : QueueState A) → 0 < size → IsKept size st → AreIdleFrom seats st → 3 * min size seats + 4 ≤ n → AreIdleFrom 0 (after_rounds size (replicate n (round_robin seats)) st)
round_robin_rests {A} size seats n st z K idle more =
    comes_to_rest size seats (replicate n (round_robin seats)) st z K idle
    (All-replicate (IsRound {A = A} seats) n (round_robin seats) (record { each = round_robin_each {A = A} seats; within = round_robin_within seats seats (omega arith) }))
    (All-replicate (λ (r : List (QueueEvent A)). All (IsAdvance {A = A}) r) n (round_robin seats) (round_robin_only seats))
    (omega (arith, more, length-replicate n (round_robin {A = A} seats)))

pub round_robin_long : (A : Type 0) (n : ℕ) → length (round_robin {A = A} n) ≡ n
round_robin_long A zero = refl
round_robin_long A (suc n) = omega (arith, round_robin_long A n)

pub round_robin_at : {A : Type 0} (n s : ℕ) → s < n → slice_get (round_robin {A = A} n) (n - 1 - s) ≡ Some (Advances s)
round_robin_at zero s l = absurd (omega arith)
round_robin_at {A} (suc n) s l = elim (same_or_not s n) [
  | inl q ↦ (let first : suc n - 1 - s ≡ 0 = omega arith in ap (slice_get (round_robin {A = A} (suc n))) first ∙ ap (λ i. Some (Advances i)) (sym q))
  | inr ne ↦ (let later : suc n - 1 - s ≡ suc (n - 1 - s) = omega arith in ap (slice_get (round_robin {A = A} (suc n))) later ∙ round_robin_at {A = A} n s (omega arith))
]
