-- The reached states of a room core: the states that follow, and what is true of all.
use Rattle.std.proofs.Math.ListN.{length-replicate}
use Rattle.fak_core.proofs.Common.{RoomCall, CoreSeat, RoomMove, ◌≡◌, ℕ, ◌+◌, ◌-◌, ◌*◌, ◌<◌, ◌≤◌, List, [], ◌∷◌, ◌++◌, length, Option, Some, Ok, refl, ap, ◌∙◌, subst, arith, slice_get, get_or, pos, Result, sum_by, ints, sum_by-cons, All-push, All-nil, slice_get_within, slice_get-get_or, sum_below, RoomKind, RoomMark, kinds_of_call, total, over_amount, back_amount, value, amount_held, room_rules, calls_lead, owes_even, sum_same, sum_parts, sum_plus, sum_most, sum_term, common_steps, Back, backs_after, call_even, held_fits, CoreFault, RoomPhase}
use Rattle.fak_core.specs.declared.room.phase.RoomPhase.TheVariants.{Idle, Testing, Adding, Backing, Releasing}
use Rattle.fak_core.specs.Room.{RoomState, history_of, opening, next_move, moved, or_idle, seat_step, step_of, begun_phase, held_with, seat_begin, begin_of, begun, amount_of}
use Rattle.fak_core.specs.RoomSchedule.{RoomEvent, Begins, Advances, IsEvent, after_step, after_begin, happens, run, IsReached}
use Rattle.fak_core.proofs.ListWrites.{length-slice_set}
use Rattle.fak_core.proofs.RoomMarks.{kinds_by, OwesKinds}
use Rattle.fak_core.proofs.RoomKept.{IsKept, IsSeat, schedule_kept}

-- ---- shape

-- the bound and the number of seats stay the same
abbrev pub SameShape : RoomState → RoomState → Type 0
SameShape s t = (t.bound ≡ s.bound) × (length t.seats ≡ length s.seats)

step_shape : (s : RoomState) (i : ℕ) (r : Result RoomMove CoreFault) → SameShape s (after_step s i r)
step_shape s i r = grind (arith, common_steps, after_step, length-slice_set)

begin_shape : (s : RoomState) (i : ℕ) (r : Result CoreSeat CoreFault) → SameShape s (after_begin s i r)
begin_shape s i r = grind (arith, common_steps, after_begin, length-slice_set)

pub event_shape : (s : RoomState) (e : RoomEvent) → SameShape s (happens s e)
event_shape s e = grind (arith, common_steps, happens, begin_shape, begin_of, step_shape, step_of)

run_shape : (es : List RoomEvent) (s : RoomState) → SameShape s (run es s)
run_shape [] s = (refl, refl)
run_shape (e ∷ es) s =
    let here = event_shape s e in
    let rest = run_shape es (happens s e) in
    (rest.0 ∙ here.0, rest.1 ∙ here.1)

pub schedule_bound : (bound seats : ℕ) (es : List RoomEvent) → (run es (opening bound seats)).bound ≡ bound
schedule_bound bound seats es = (run_shape es (opening bound seats)).0

-- ---- the next state

pub opening_reached : (bound seats : ℕ) → IsReached bound seats (opening bound seats)
opening_reached bound seats = record { schedule = []; events = All-nil IsEvent; leads = refl }

run-push : (es : List RoomEvent) (e : RoomEvent) (s : RoomState) → run (es ++ e ∷ []) s ≡ happens (run es s) e
run-push [] e s = refl
run-push (d ∷ es) e s = run-push es e (happens s d)

-- an event leads from a reached state to a reached state
pub reached_next : (bound seats : ℕ) (s : RoomState) (e : RoomEvent) → IsEvent e → IsReached bound seats s → IsReached bound seats (happens s e)
reached_next bound seats s e range r = record {
  schedule = r.schedule ++ e ∷ [];
  events = All-push IsEvent r.schedule e r.events range;
  leads = run-push r.schedule e (opening bound seats) ∙ ap (λ (w : RoomState). happens w e) r.leads;
}

pub step_is : (s : RoomState) (i : ℕ) (x : CoreSeat) (o : Option RoomMove) → slice_get s.seats i ≡ Some x → next_move s.bound s.count x.held x.phase ≡ o → step_of s i ≡ or_idle o
step_is s i x o at is = ap (seat_step s) at ∙ ap or_idle is

pub begin_is : (s : RoomState) (i : ℕ) (call : RoomCall) (x : CoreSeat) (r : Result RoomPhase CoreFault) → slice_get s.seats i ≡ Some x → begun_phase x.held x.phase call ≡ r → begin_of s i call ≡ held_with x.held r
begin_is s i call x r at is = ap (λ (o : Option CoreSeat). seat_begin o call) at ∙ ap (held_with x.held) is

-- for objects with words that show a reached state: the next move of a seat leads to a reached state
pub reached_move : (bound seats : ℕ) (s : RoomState) (i : ℕ) (x : CoreSeat) (m : RoomMove) → IsReached bound seats s → slice_get s.seats i ≡ Some x → next_move s.bound s.count x.held x.phase ≡ Some m → IsReached bound seats (moved s i m)
reached_move bound seats s i x m r at is = subst (λ (o : Result RoomMove CoreFault). IsReached bound seats (after_step s i o)) (step_is s i x (Some m) at is) (reached_next bound seats s (Advances i) tt r)

-- and so does the begin of its next call
pub reached_begin : (bound seats : ℕ) (s : RoomState) (i : ℕ) (x : CoreSeat) (call : RoomCall) (phase : RoomPhase) → IsReached bound seats s → slice_get s.seats i ≡ Some x → (1 ≤ amount_of call) × (amount_of call ≤ 1024)
    → begun_phase x.held x.phase call ≡ Ok phase → IsReached bound seats (begun s i (record { held = x.held; phase = phase }))
reached_begin bound seats s i x call phase r at range is = subst (λ (o : Result CoreSeat CoreFault). IsReached bound seats (after_begin s i o)) (begin_is s i call x (Ok phase) at is) (reached_next bound seats s (Begins i call) range r)

-- ---- what is true of a reached state

pub reached_kept : (bound seats : ℕ) (s : RoomState) → IsReached bound seats s → IsKept s
reached_kept bound seats s r = subst IsKept r.leads (schedule_kept bound seats r.schedule r.events)

pub reached_shape : (bound seats : ℕ) (s : RoomState) → IsReached bound seats s → (s.bound ≡ bound) × (length s.seats ≡ seats)
reached_shape bound seats s r = grind (arith, common_steps, run_shape, opening, length, length-replicate)

-- the amount of a seat's claims that are not withdrawn yet
overs_less : (kinds owed : List RoomKind) (d : ℕ) → OwesKinds kinds owed → sum_by back_amount owed ≤ sum_by over_amount owed + d → sum_by over_amount kinds ≤ sum_by back_amount kinds + d
overs_less kinds owed d o le = omega (arith, owes_even kinds_of_call over_amount back_amount call_even kinds owed o)

seat_overs : (h : List RoomMark) (i n : ℕ) (phase : RoomPhase) → IsSeat h i (record { held = n; phase = phase }) → sum_by over_amount (kinds_by i h) ≤ sum_by back_amount (kinds_by i h) + 1024
seat_overs h i n Idle k = overs_less (kinds_by i h) [] 1024 k.owes (omega arith)
seat_overs h i n (Testing d) k = overs_less (kinds_by i h) [] 1024 k.owes (omega arith)
seat_overs h i n (Adding d) k = overs_less (kinds_by i h) [] 1024 k.owes (omega arith)
seat_overs h i n (Releasing d) k = overs_less (kinds_by i h) [] 1024 k.owes (omega arith)
seat_overs h i n (Backing d) k =
    let range : d ≤ 1024 = k.range in
    overs_less (kinds_by i h) (Back d ∷ []) 1024 k.owes (omega (arith, sum_by-cons back_amount (Back d) [], sum_by-cons over_amount (Back d) []))

any_seat : (xs : List CoreSeat) (i : ℕ) → i < length xs → (x : CoreSeat) × (slice_get xs i ≡ Some x)
any_seat xs i within = let d : CoreSeat = record { held = 0; phase = Idle } in (get_or xs i d, slice_get-get_or xs i d within)

-- the count is what all seats hold plus what is not withdrawn yet, which is at most 1,024 for each seat
pub count_within : (s : RoomState) → IsKept s → (v : ℕ) × (s.count ≡ pos v) × (v ≤ s.bound + length s.seats * 1024)
count_within s k =
    let h = history_of s in
    let n = length s.seats in
    let over : ℕ → ℕ = λ (i : ℕ). sum_by over_amount (kinds_by i h) in
    let back : ℕ → ℕ = λ (i : ℕ). sum_by back_amount (kinds_by i h) in
    let more : ℕ → ℕ = λ (i : ℕ). over i - back i in
    let covered : (i : ℕ) → back i ≤ over i = λ i. calls_lead kinds_of_call back_amount over_amount backs_after (kinds_by i h) (k.history.calls i) in
    let split : sum_below over n ≡ sum_below back n + sum_below more n = sum_same over (λ (i : ℕ). back i + more i) n (λ i l. omega (arith, covered i)) ∙ sum_plus back more n in
    let few : sum_below more n ≤ n * 1024 = sum_most more 1024 n (λ i within. let x = any_seat s.seats i within in omega (arith, seat_overs h i x.0.held x.0.phase (k.seats i x.0 x.1))) in
    let held = held_fits s.bound n h k.history k.named in
    let overs : sum_below over n ≡ total over_amount h = sum_parts (room_rules s.bound) over_amount n h k.named in
    let backs : sum_below back n ≡ total back_amount h = sum_parts (room_rules s.bound) back_amount n h k.named in
    let is : value h ≡ pos (sum_below (λ i. amount_held i h) n + sum_below more n) = omega (arith, ints, split, held.0, overs, backs) in
    (sum_below (λ i. amount_held i h) n + sum_below more n, k.counted ∙ is, omega (arith, held.1, few))

-- a seat holds at most the bound
pub held_within : (s : RoomState) (i : ℕ) (x : CoreSeat) → IsKept s → slice_get s.seats i ≡ Some x → x.held ≤ s.bound
held_within s i x k is =
    let term : amount_held i (history_of s) ≤ sum_below (λ j. amount_held j (history_of s)) (length s.seats) = sum_term (λ j. amount_held j (history_of s)) i (length s.seats) (slice_get_within s.seats i x is) in
    omega (arith, term, (held_fits s.bound (length s.seats) (history_of s) k.history k.named).1, (k.seats i x is).holds)

-- the count of a reached state is at most the bound plus 1,024 for each seat
pub reached_count : (bound seats : ℕ) (s : RoomState) → IsReached bound seats s → (v : ℕ) × (s.count ≡ pos v) × (v ≤ bound + seats * 1024)
reached_count bound seats s r =
    let v = count_within s (reached_kept bound seats s r) in
    let shape = reached_shape bound seats s r in
    (v.0, v.1, subst (λ (n : ℕ). v.0 ≤ bound + n * 1024) shape.1 (subst (λ (b : ℕ). v.0 ≤ b + length s.seats * 1024) shape.0 v.2))
