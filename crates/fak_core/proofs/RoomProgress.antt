-- A room's call ends by steps of its own seat.
use Rattle.fak_core.specs.declared.fault.CoreFault.TheVariants.{MidCall}
use Rattle.fak_core.specs.declared.room.phase.RoomPhase.TheVariants.{Idle, Testing, Adding, Backing, Releasing}
use Rattle.fak_core.specs.Room.{RoomState, fits, test_move, add_move, back_move, release_move, next_move, moved, step_of, begun_phase, begin_of}
use Rattle.fak_core.specs.RoomProgress.{steps_left, phase_of, phase_at, own_step, own_steps, IsIdleOnce}
use Rattle.fak_core.proofs.Common.{RoomCall, CoreSeat, RoomMove, RoomEvent, Begins, Advances, after_step, after_begin, happens, CoreFault, RoomPhase, Bool, true, false, ◌≡◌, ◌≢◌, ◌⊎◌, ℕ, ◌+◌, ◌<◌, ◌≤◌, List, [], ◌∷◌, Some, Result, Ok, Err, refl, sym, ap, ◌∙◌, subst, inl, inr, arith, slice_get, slice_get_within, cond_here, cond_else, same_or_not, common_steps, ℤ}
use Rattle.fak_core.proofs.ListWrites.{written_here, written_stays}
use Rattle.fak_core.proofs.RoomReached.{step_is, begin_is}

idle_or_not : (p : RoomPhase) → (p ≡ Idle) ⊎ (p ≢ Idle)
idle_or_not p = grind (arith, common_steps)

none_left : (p : RoomPhase) → steps_left p ≡ 0 → p ≡ Idle
none_left p e = grind (arith, common_steps, steps_left)

-- no call takes more than three steps
pub three_left : (p : RoomPhase) → steps_left p ≤ 3
three_left p = grind (arith, common_steps, steps_left)

idle_at : (s : RoomState) (i : ℕ) (x : CoreSeat) → slice_get s.seats i ≡ Some x → x.phase ≡ Idle → phase_at s i ≡ Idle
idle_at s i x at e = ap phase_of at ∙ e

-- ---- other seats

other_step : (s : RoomState) (j i : ℕ) (r : Result RoomMove CoreFault) (x : CoreSeat) → i ≢ j → slice_get s.seats i ≡ Some x → slice_get (after_step s j r).seats i ≡ Some x
other_step s j i (Ok m) x ne at = written_stays s.seats j i m.seat x ne at
other_step s j i (Err fault) x ne at = at

other_begin : (s : RoomState) (j i : ℕ) (r : Result CoreSeat CoreFault) (x : CoreSeat) → i ≢ j → slice_get s.seats i ≡ Some x → slice_get (after_begin s j r).seats i ≡ Some x
other_begin s j i (Ok y) x ne at = written_stays s.seats j i y x ne at
other_begin s j i (Err fault) x ne at = at

-- a seat with an open call begins no other
begun_mid : (held : ℕ) (p : RoomPhase) (call : RoomCall) → p ≢ Idle → begun_phase held p call ≡ Err MidCall
begun_mid held Idle call n = absurd (n refl)
begun_mid held (Testing d) call n = refl
begun_mid held (Adding d) call n = refl
begun_mid held (Backing d) call n = refl
begun_mid held (Releasing d) call n = refl

begins_nothing : (s : RoomState) (i : ℕ) (call : RoomCall) (x : CoreSeat) → slice_get s.seats i ≡ Some x → x.phase ≢ Idle → happens s (Begins i call) ≡ s
begins_nothing s i call x at n = ap (after_begin s i) (begin_is s i call x (Err MidCall) at (begun_mid x.held x.phase call n))

-- ---- its own step

test_falls : (b : Bool) (found : ℤ) (held d : ℕ) → steps_left (test_move b found held d).seat.phase < 3
test_falls true found held d = omega arith
test_falls false found held d = omega arith

add_falls : (b : Bool) (found : ℤ) (held d : ℕ) → steps_left (add_move b found held d).seat.phase < 2
add_falls true found held d = omega arith
add_falls false found held d = omega arith

-- the next step of a seat with an open call leaves it with fewer steps
next_falls : (bound : ℕ) (found : ℤ) (held : ℕ) (p : RoomPhase) → p ≢ Idle → (m : RoomMove) × (next_move bound found held p ≡ Some m) × (steps_left m.seat.phase < steps_left p)
next_falls bound found held Idle n = absurd (n refl)
next_falls bound found held (Testing d) n = (test_move (fits bound found d) found held d, refl, test_falls (fits bound found d) found held d)
next_falls bound found held (Adding d) n = (add_move (fits bound found d) found held d, refl, add_falls (fits bound found d) found held d)
next_falls bound found held (Backing d) n = (back_move found held d, refl, omega arith)
next_falls bound found held (Releasing d) n = (release_move found held d, refl, omega arith)

own_falls : (s : RoomState) (i : ℕ) (x : CoreSeat) → slice_get s.seats i ≡ Some x → x.phase ≢ Idle
    → (y : CoreSeat) × (slice_get (happens s (Advances i)).seats i ≡ Some y) × (steps_left y.phase < steps_left x.phase)
own_falls s i x at n =
    let w = next_falls s.bound s.count x.held x.phase n in
    let made : happens s (Advances i) ≡ moved s i w.0 = ap (after_step s i) (step_is s i x (Some w.0) at w.1) in
    (w.0.seat, ap (λ (t : RoomState). slice_get t.seats i) made ∙ written_here s.seats i w.0.seat (slice_get_within s.seats i x at), w.2)

-- ---- a call ends

-- the event takes one of the seat's steps left, or none
abbrev Goes : RoomState → ℕ → CoreSeat → RoomEvent → Type 0
Goes s i x e = (y : CoreSeat) × (slice_get (happens s e).seats i ≡ Some y) × (steps_left y.phase + own_step i e ≤ steps_left x.phase)

goes : (s : RoomState) (i : ℕ) (x : CoreSeat) (e : RoomEvent) → slice_get s.seats i ≡ Some x → x.phase ≢ Idle → Goes s i x e
goes s i x (Begins j call) at n = elim (same_or_not i j) [
  | inl q ↦ (x, subst (λ k. slice_get (happens s (Begins k call)).seats i ≡ Some x) q (ap (λ (t : RoomState). slice_get t.seats i) (begins_nothing s i call x at n) ∙ at), omega arith)
  | inr ne ↦ (x, other_begin s j i (begin_of s j call) x ne at, omega arith)
]
goes s i x (Advances j) at n = elim (same_or_not j i) [
  | inl q ↦ subst (λ k. Goes s i x (Advances k)) (sym q) (let w = own_falls s i x at n in (w.0, w.1, omega (arith, w.2, cond_here {B = ℕ} i 1 0)))
  | inr ne ↦ (x, other_step s j i (step_of s j) x (λ e. ne (sym e)) at, omega (arith, cond_else {B = ℕ} j i 1 0 ne))
]

pub call_ends : (es : List RoomEvent) (s : RoomState) (i : ℕ) (x : CoreSeat) → slice_get s.seats i ≡ Some x → steps_left x.phase ≤ own_steps i es → IsIdleOnce es s i
call_ends [] s i x at few = idle_at s i x at (none_left x.phase (omega arith))
call_ends (e ∷ es) s i x at few = elim (idle_or_not x.phase) [
  | inl idle ↦ inl (idle_at s i x at idle)
  | inr n ↦ (let w = goes s i x e at n in inr (call_ends es (happens s e) i w.0 w.1 (omega (arith, w.2))))
]
