-- What every step of a room core keeps.
use Rattle.fak_model.specs.declared.room.RoomKind.TheVariants.{Up, Over, Back, No, Release as GivenBack}
use Rattle.fak_model.specs.Room.{Granted, Refused, Withdrawn, Released, kinds_of_call, up_amount, release_amount, value, amount_held, room_rules, IsFair, IsRoomHistory}
use Rattle.fak_core.proofs.Common.{RoomCall, CoreSeat, RoomMove, RoomEvent, IsEvent, after_step, after_begin, happens, run, ◌≡◌, ◌≢◌, ℕ, ◌+◌, ◌-◌, ◌<◌, ◌≤◌, Bool, true, false, cond, List, [], ◌∷◌, ◌++◌, length, reverse, Option, Some, None, Ok, Err, refl, ap, sym, ◌∙◌, subst, arith, slice_get, slice_set, ℤ, pos, ◌+ℤ◌, ◌-ℤ◌, ◌≤ℤ◌, ◌<ℤ◌, nat_lt, All, sum_by, nat_tests, ints, All-push, All-head, All-tail, slice_get_within, AreNamed, RoomKind, RoomMark, same_or_not, common_steps, seat_words-other, call_begins, history_none, history_owed, reverse_cons, RoomPhase}
use Rattle.fak_core.specs.declared.call.RoomCall.TheVariants.{Tir, Release}
use Rattle.fak_core.specs.declared.fault.CoreFault.TheVariants.{NotHeld}
use Rattle.fak_core.specs.declared.room.phase.RoomPhase.TheVariants.{Idle, Testing, Adding, Backing, Releasing}
use Rattle.fak_core.specs.Room.{RoomState, history_of, opening, fits, test_move, add_move, back_move, release_move, next_move, moved, or_idle, seat_step, begun_phase, held_with, seat_begin, begun, amount_of, HasRange}
use Rattle.fak_core.proofs.ListWrites.{length-slice_set, written_here, written_elsewhere, slice_get-replicate}
use Rattle.fak_core.proofs.RoomMarks.{kinds_by, OwesKinds, held_after, count_after, amount_held-own, value-push}

-- the kinds that a seat owes in each phase
abbrev pub owed_in : RoomPhase → List RoomKind
owed_in Idle = []
owed_in (Testing d) = []
owed_in (Adding d) = []
owed_in (Backing d) = Back d ∷ []
owed_in (Releasing d) = []

-- a seat holds what its marks give, and owes what its phase shows
pub record IsSeat (h : List RoomMark) (i : ℕ) (x : CoreSeat) : Type 0 where
  pub holds : x.held ≡ amount_held i h
  pub owes : OwesKinds (kinds_by i h) (owed_in x.phase)
  pub range : HasRange x.held x.phase

-- the count and the seats are those of a lawful history
pub record IsTold (bound : ℕ) (h : List RoomMark) (count : ℤ) (all : List CoreSeat) : Type 0 where
  pub history : IsRoomHistory bound h
  pub named : AreNamed (room_rules bound) (length all) h
  pub counted : count ≡ value h
  pub seats : (i : ℕ) (x : CoreSeat) → slice_get all i ≡ Some x → IsSeat h i x

-- a state is that of its marks
abbrev pub IsKept : RoomState → Type 0
IsKept s = IsTold s.bound (history_of s) s.count s.seats

-- ---- one seat is written

-- if one seat is written and matches the marks, and the others matched them, all match
seats_written : (h : List RoomMark) (xs : List CoreSeat) (i : ℕ) (x : CoreSeat) → IsSeat h i x → ((j : ℕ) (y : CoreSeat) → j ≢ i → slice_get xs j ≡ Some y → IsSeat h j y)
    → (j : ℕ) (y : CoreSeat) → slice_get (slice_set xs i x) j ≡ Some y → IsSeat h j y
seats_written h xs i x here others j y is = grind (arith, common_steps, same_or_not, length, slice_get_within, slice_set, length-slice_set, slice_get, written_here, written_elsewhere)

-- a seat changes its phase without a mark
phase_kept : (s : RoomState) (i : ℕ) (x : CoreSeat) → IsKept s → IsSeat (history_of s) i x → IsKept (begun s i x)
phase_kept s i x k here = record {
  history = k.history;
  named = subst (λ (n : ℕ). AreNamed (room_rules s.bound) n (history_of s)) (sym (length-slice_set s.seats i x)) k.named;
  counted = k.counted;
  seats = seats_written (history_of s) s.seats i x here (λ j y other is. k.seats j y is);
}

-- a seat matches its marks still after a mark of another seat
other_seat : (h : List RoomMark) (m : RoomMark) (j : ℕ) (y : CoreSeat) → m.seat ≢ j → IsSeat h j y → IsSeat (h ++ m ∷ []) j y
other_seat h m j y other k = grind (arith, common_steps, kinds_by, seat_words-other, room_rules, sum_by, up_amount, release_amount)

-- a seat takes a step with a mark that it owes and that is fair
told_push : (s : RoomState) (i : ℕ) (kind : RoomKind) (x : CoreSeat) (n : ℤ) (h : List RoomMark) → IsTold s.bound h s.count s.seats → i < length s.seats
    → OwesKinds (kinds_by i h) (kind ∷ owed_in x.phase) → IsFair s.bound h i kind → x.held ≡ held_after (amount_held i h) kind → HasRange x.held x.phase → n ≡ count_after s.count kind
    → IsTold s.bound (h ++ record { seat = i; kind = kind } ∷ []) n (slice_set s.seats i x)
told_push s i kind x n h k within owes fair holds range counted =
    let m : RoomMark = record { seat = i; kind = kind } in
    let size : length (slice_set s.seats i x) ≡ length s.seats = length-slice_set s.seats i x in
    let more = history_owed (room_rules s.bound) h m (owed_in x.phase) k.history owes fair in
    let here : IsSeat (h ++ m ∷ []) i x = record { holds = holds ∙ sym (amount_held-own s.bound h m k.history); owes = more.1; range = range } in
    record {
      history = more.0;
      named = All-push (λ (w : RoomMark). w.seat < length (slice_set s.seats i x)) h m (subst (λ (w : ℕ). AreNamed (room_rules s.bound) w h) (sym size) k.named) (omega arith);
      counted = counted ∙ ap (λ (w : ℤ). count_after w kind) k.counted ∙ sym (value-push h m);
      seats = seats_written (h ++ m ∷ []) s.seats i x here (λ j y other is. other_seat h m j y (λ e. other (sym e)) (k.seats j y is));
    }

mark_kept : (s : RoomState) (i : ℕ) (kind : RoomKind) (x : CoreSeat) (n : ℤ) → IsKept s → i < length s.seats
    → OwesKinds (kinds_by i (history_of s)) (kind ∷ owed_in x.phase) → IsFair s.bound (history_of s) i kind → x.held ≡ held_after (amount_held i (history_of s)) kind → HasRange x.held x.phase
    → n ≡ count_after s.count kind → IsTold s.bound (reverse (record { seat = i; kind = kind } ∷ s.past)) n (slice_set s.seats i x)
mark_kept s i kind x n k within owes fair holds range counted =
    subst (λ (h : List RoomMark). IsTold s.bound h n (slice_set s.seats i x)) (sym (reverse_cons (record { seat = i; kind = kind }) s.past)) (told_push s i kind x n (history_of s) k within owes fair holds range counted)

-- ---- steps

test_kept : (s : RoomState) (i n d : ℕ) (b : Bool) → IsKept s → i < length s.seats → IsSeat (history_of s) i (record { held = n; phase = Testing d }) → fits s.bound s.count d ≡ b
    → IsKept (moved s i (test_move b s.count n d))
test_kept s i n d true k within at is = phase_kept s i (record { held = n; phase = Adding d }) k (record { holds = at.holds; owes = at.owes; range = at.range })
test_kept s i n d false k within at is =
    let found : s.count ≡ value (history_of s) = k.counted in
    let fair : pos s.bound <ℤ (value (history_of s) +ℤ pos d) = rw (← found) (grind (arith, ints)) in
    mark_kept s i (No d) (record { held = n; phase = Idle }) s.count k within (call_begins kinds_of_call (kinds_by i (history_of s)) (Refused d) at.owes) fair (omega (arith, at.holds)) tt (omega (arith, ints))

add_kept : (s : RoomState) (i n d : ℕ) (b : Bool) → IsKept s → i < length s.seats → IsSeat (history_of s) i (record { held = n; phase = Adding d }) → fits s.bound s.count d ≡ b
    → IsKept (moved s i (add_move b s.count n d))
add_kept s i n d true k within at is =
    let found : s.count ≡ value (history_of s) = k.counted in
    let fair : (value (history_of s) +ℤ pos d) ≤ℤ pos s.bound = rw (← found) (grind (arith, ints)) in
    mark_kept s i (Up d) (record { held = n + d; phase = Idle }) (s.count +ℤ pos d) k within (call_begins kinds_of_call (kinds_by i (history_of s)) (Granted d) at.owes) fair (omega (arith, at.holds)) tt (omega (arith, ints))
add_kept s i n d false k within at is =
    let found : s.count ≡ value (history_of s) = k.counted in
    let fair : pos s.bound <ℤ (value (history_of s) +ℤ pos d) = rw (← found) (grind (arith, ints)) in
    mark_kept s i (Over d) (record { held = n; phase = Backing d }) (s.count +ℤ pos d) k within (call_begins kinds_of_call (kinds_by i (history_of s)) (Withdrawn d) at.owes) fair (omega (arith, at.holds)) at.range (omega (arith, ints))

-- after a step of a seat, the state is that of its marks
move_kept : (s : RoomState) (i n : ℕ) (phase : RoomPhase) (m : RoomMove) → IsKept s → i < length s.seats → IsSeat (history_of s) i (record { held = n; phase = phase })
    → next_move s.bound s.count n phase ≡ Some m → IsKept (moved s i m)
move_kept s i n Idle m k within at is = absurd cc
move_kept s i n (Testing d) m k within at is = grind (arith, common_steps, test_move, fits, moved, test_kept)
move_kept s i n (Adding d) m k within at is = grind (arith, common_steps, add_move, fits, moved, add_kept)
move_kept s i n (Backing d) m k within at is =
    let it : back_move s.count n d ≡ m = cc in
    subst (λ (w : RoomMove). IsKept (moved s i w)) it (mark_kept s i (Back d) (record { held = n; phase = Idle }) (s.count -ℤ pos d) k within at.owes tt (omega (arith, at.holds)) tt (omega (arith, ints)))
move_kept s i n (Releasing d) m k within at is =
    let it : release_move s.count n d ≡ m = cc in
    let enough : d ≤ amount_held i (history_of s) = omega (arith, at.range.1, at.holds) in
    subst (λ (w : RoomMove). IsKept (moved s i w)) it (mark_kept s i (GivenBack d) (record { held = n - d; phase = Idle }) (s.count -ℤ pos d) k within (call_begins kinds_of_call (kinds_by i (history_of s)) (Released d) at.owes) enough (omega (arith, at.holds)) tt (omega (arith, ints)))

found_kept : (s : RoomState) (i : ℕ) (x : CoreSeat) (o : Option RoomMove) → IsKept s → slice_get s.seats i ≡ Some x → next_move s.bound s.count x.held x.phase ≡ o → IsKept (after_step s i (or_idle o))
found_kept s i x None k at is = k
found_kept s i x (Some m) k at is = move_kept s i x.held x.phase m k (slice_get_within s.seats i x at) (k.seats i x at) is

step_kept : (s : RoomState) (i : ℕ) (o : Option CoreSeat) → IsKept s → slice_get s.seats i ≡ o → IsKept (after_step s i (seat_step s o))
step_kept s i o k at = grind (arith, common_steps, slice_get, after_step, seat_step, found_kept, next_move)

-- ---- beginning a call

release_kept : (s : RoomState) (i n d : ℕ) (b : Bool) → IsKept s → IsSeat (history_of s) i (record { held = n; phase = Idle }) → d ≤ 1024 → nat_lt n d ≡ b
    → IsKept (after_begin s i (held_with n (cond b (Err NotHeld) (Ok (Releasing d)))))
release_kept s i n d true k at range is = k
release_kept s i n d false k at range is =
    let enough : d ≤ n = grind (arith, nat_tests) in
    phase_kept s i (record { held = n; phase = Releasing d }) k (record { holds = at.holds; owes = at.owes; range = (range, enough) })

call_kept : (s : RoomState) (i n : ℕ) (phase : RoomPhase) (call : RoomCall) → IsKept s → IsSeat (history_of s) i (record { held = n; phase = phase }) → amount_of call ≤ 1024
    → IsKept (after_begin s i (held_with n (begun_phase n phase call)))
call_kept s i n Idle (Tir d) k at range = phase_kept s i (record { held = n; phase = Testing d }) k (record { holds = at.holds; owes = at.owes; range = range })
call_kept s i n Idle (Release d) k at range = release_kept s i n d (nat_lt n d) k at range refl
call_kept s i n (Testing e) call k at range = k
call_kept s i n (Adding e) call k at range = k
call_kept s i n (Backing e) call k at range = k
call_kept s i n (Releasing e) call k at range = k

begin_kept : (s : RoomState) (i : ℕ) (call : RoomCall) (o : Option CoreSeat) → IsKept s → slice_get s.seats i ≡ o → amount_of call ≤ 1024 → IsKept (after_begin s i (seat_begin o call))
begin_kept s i call o k at u = grind (arith, common_steps, slice_get, amount_of, after_begin, seat_begin, call_kept)

-- ---- schedules

-- after each event, the state is that of its marks
pub event_kept : (s : RoomState) (e : RoomEvent) → IsEvent e → IsKept s → IsKept (happens s e)
event_kept s e u k = grind (arith, common_steps, happens, IsEvent, begin_kept, slice_get, step_kept)

pub opening_kept : (bound seats : ℕ) → IsKept (opening bound seats)
opening_kept bound seats = grind (arith, common_steps, history_none, room_rules, length, opening, seats, slice_get-replicate)

run_kept : (es : List RoomEvent) (s : RoomState) → All IsEvent es → IsKept s → IsKept (run es s)
run_kept [] s range k = k
run_kept (e ∷ es) s range k = run_kept es (happens s e) (All-tail IsEvent e es range) (event_kept s e (All-head IsEvent e es range) k)

-- after every schedule, the state is that of its marks
pub schedule_kept : (bound seats : ℕ) (es : List RoomEvent) → All IsEvent es → IsKept (run es (opening bound seats))
schedule_kept bound seats es range = run_kept es (opening bound seats) range (opening_kept bound seats)
