-- What the calls of a room core know from its state, and from the values that they read.
use Rattle.std.proofs.Math.ListN.{length-replicate}
use Rattle.fak_core.proofs.Common.{RoomCall, CoreSeat, RoomMove, ◌≡◌, ◌≤◌, ◌<◌, ◌∙◌, ◌++◌, ℕ, ℤ, List, length, arith, Ok, Option, ap, sym, subst, slice_set, get_or, w64, to_z, of_z, pos, Result, ints, slice_get_read, RoomMark, common_steps, w128, CoreFault}
use Rattle.fak_core.specs.declared.line.LineMark.{LineMark}
use Rattle.fak_core.specs.Room.{RoomState, opening, step_of, next_move, or_idle, moved, marks_left, line_of, line_mark, begin_of, begun, amount_of}
use Rattle.fak_core.specs.RoomSchedule.{RoomEvent, Begins, Advances, IsEvent, IsSound, after_step, after_begin, happens}
use Rattle.fak_core.proofs.RoomKept.{IsKept}
use Rattle.fak_core.proofs.RoomReached.{event_shape, opening_reached, reached_next, reached_kept, reached_count, step_is}

-- ---- sound states

pub sound_kept : (s : RoomState) → IsSound s → IsKept s
sound_kept s h = reached_kept s.bound (length s.seats) s h.reached

-- the count of a sound state is small
pub sound_count : (s : RoomState) → IsSound s → (v : ℕ) × (s.count ≡ pos v) × (v ≤ 4295032832)
sound_count s h =
    let v = reached_count s.bound (length s.seats) s h.reached in
    (v.0, v.1, omega (arith, v.2, h.bound, h.seats))

sound_next : (s : RoomState) (e : RoomEvent) → IsEvent e → IsSound s → IsSound (happens s e)
sound_next s e range h = grind (arith, common_steps, event_shape, length, happens, reached_next)

pub sound_opening : (bound seats : ℕ) → bound ≤ 4294967296 → seats ≤ 64 → IsSound (opening bound seats)
sound_opening bound seats b n = grind (arith, common_steps, length, opening, length-replicate, opening_reached)

pub sound_begun : (s : RoomState) (i : ℕ) (call : RoomCall) (x : CoreSeat) → (1 ≤ amount_of call) × (amount_of call ≤ 1024) → IsSound s → begin_of s i call ≡ Ok x → IsSound (begun s i x)
sound_begun s i call x range h is = subst (λ (r : Result CoreSeat CoreFault). IsSound (after_begin s i r)) is (sound_next s (Begins i call) range h)

sound_moved : (s : RoomState) (i : ℕ) (m : RoomMove) → IsSound s → step_of s i ≡ Ok m → IsSound (moved s i m)
sound_moved s i m h is = subst (λ (r : Result RoomMove CoreFault). IsSound (after_step s i r)) is (sound_next s (Advances i) tt h)

-- ---- what the code reads and writes

-- the count is the same as an i64
count_read : (s : RoomState) → IsSound s → to_z w64 (of_z w64 s.count) ≡ s.count
count_read s h = let v = sound_count s h in omega (arith, ints, v.1, v.2)

-- the step that the code computes
pub step_found : (s : RoomState) (i : ℕ) (x : CoreSeat) (o : Option RoomMove) → IsSound s → i < length s.seats → x ≡ get_or s.seats i x
    → o ≡ next_move s.bound (to_z w64 (of_z w64 s.count)) x.held x.phase → step_of s i ≡ or_idle o
step_found s i x o h within at is = grind (arith, common_steps, step_is, slice_get_read, next_move, count_read)

-- the state after the code has written
pub step_left : (s : RoomState) (i : ℕ) (m : RoomMove) (past : List RoomMark) → IsSound s → step_of s i ≡ Ok m → past ≡ marks_left i m.mark ++ s.past
    → record { bound = s.bound; count = to_z w64 (of_z w64 m.count); seats = slice_set s.seats i m.seat; past = past } ≡ moved s i m
step_left s i m past h is more =
    let same : to_z w64 (of_z w64 m.count) ≡ m.count = count_read (moved s i m) (sound_moved s i m h is) in
    ap (λ (n : ℤ). record { bound = s.bound; count = n; seats = slice_set s.seats i m.seat; past = past }) same
    ∙ ap (λ (l : List RoomMark). record { bound = s.bound; count = m.count; seats = slice_set s.seats i m.seat; past = l }) more

pub step_sound : (s : RoomState) (i : ℕ) (m : RoomMove) (past : List RoomMark) → IsSound s → step_of s i ≡ Ok m → past ≡ marks_left i m.mark ++ s.past
    → IsSound (record { bound = s.bound; count = to_z w64 (of_z w64 m.count); seats = slice_set s.seats i m.seat; past = past })
step_sound s i m past h is more = subst IsSound (sym (step_left s i m past h is more)) (sound_moved s i m h is)

-- the line that the code returns
pub step_line : (s : RoomState) (i : ℕ) (m : RoomMove) (mark : Option LineMark) → IsSound s → mark ≡ line_mark m.mark
    → record { seat = i; step = m.step; found = to_z w128 (of_z w128 (to_z w64 (of_z w64 s.count))); mark = mark } ≡ line_of s i m
step_line s i m mark h is =
    let v = sound_count s h in
    let found : to_z w128 (of_z w128 (to_z w64 (of_z w64 s.count))) ≡ s.count = omega (arith, ints, v.1, v.2) in
    ap (λ (n : ℤ). record { seat = i; step = m.step; found = n; mark = mark }) found
    ∙ ap (λ (k : Option LineMark). record { seat = i; step = m.step; found = s.count; mark = k }) is
