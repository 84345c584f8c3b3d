-- The room core: its states, and one atomic step of a seat.
use Rattle.std.specs.Prelude.{ℕ, ◌≡◌, ◌+◌, ◌-◌, ◌≤◌, ℤ, pos, ◌+ℤ◌, ◌-ℤ◌, Bool, true, false, not, if◌then◌else◌, int_lt, nat_lt, Option, None, Some, IsSome, Result, Ok, Err, List, [], ◌∷◌, ◌++◌, reverse, slice_get, slice_set, replicate}
use Rattle.fak_model.specs.declared.room.RoomKind.{RoomKind}
use Rattle.fak_model.specs.declared.room.RoomKind.TheVariants.{Up, Over, Back, No, Release as GivenBack}
use Rattle.fak_model.specs.declared.room.RoomMark.{RoomMark}
use Rattle.fak_core.specs.declared.call.RoomCall.{RoomCall}
use Rattle.fak_core.specs.declared.call.RoomCall.TheVariants.{Tir, Release}
use Rattle.fak_core.specs.declared.fault.CoreFault.{CoreFault}
use Rattle.fak_core.specs.declared.fault.CoreFault.TheVariants.{NoSuchSeat, MidCall, IdleSeat, NotHeld}
use Rattle.fak_core.specs.declared.line.CoreMove.TheVariants as step
use Rattle.fak_core.specs.declared.line.LineMark.{LineMark}
use Rattle.fak_core.specs.declared.line.LineMark.TheVariants as mark
use Rattle.fak_core.specs.declared.line.Line.{Line}
use Rattle.fak_core.specs.declared.room.phase.RoomPhase.{RoomPhase}
use Rattle.fak_core.specs.declared.room.phase.RoomPhase.TheVariants.{Idle, Testing, Adding, Backing, Releasing}
use Rattle.fak_core.specs.declared.room.phase.CoreSeat.{CoreSeat}
use Rattle.fak_core.specs.declared.room.step.RoomMove.{RoomMove}

-- ---- states

-- the count, what each seat holds and its next step, and the marks so far, newest first
pub record RoomState : Type 0 where
  pub bound : ℕ
  pub count : ℤ
  pub seats : List CoreSeat
  pub past : List RoomMark

-- the marks so far, oldest first
abbrev pub history_of : RoomState → List RoomMark
history_of s = reverse s.past

-- nobody holds anything, and no call has begun
abbrev pub opening : ℕ → ℕ → RoomState
opening bound seats = record {
  bound = bound;
  count = pos 0;
  seats = replicate seats (record { held = 0; phase = Idle });
  past = [];
}

-- ---- steps

-- whether the bound allows d more than was found
abbrev pub fits : ℕ → ℤ → ℕ → Bool
fits bound found d = not (int_lt (pos bound) (found +ℤ pos d))

-- the load, by whether its test passes; what each step must follow is in `fak_core::room::moves`
abbrev pub test_move : Bool → ℤ → ℕ → ℕ → RoomMove
test_move true found held d = record { step = step.Test; mark = None; count = found; seat = record { held = held; phase = Adding d } }
test_move false found held d = record { step = step.Test; mark = Some (No d); count = found; seat = record { held = held; phase = Idle } }

-- the fetch-and-add, by whether the test of what it found passes
abbrev pub add_move : Bool → ℤ → ℕ → ℕ → RoomMove
add_move true found held d = record { step = step.Add; mark = Some (Up d); count = found +ℤ pos d; seat = record { held = held + d; phase = Idle } }
add_move false found held d = record { step = step.Add; mark = Some (Over d); count = found +ℤ pos d; seat = record { held = held; phase = Backing d } }

-- the fetch-and-subtract that withdraws a claim
abbrev pub back_move : ℤ → ℕ → ℕ → RoomMove
back_move found held d = record { step = step.Back; mark = Some (Back d); count = found -ℤ pos d; seat = record { held = held; phase = Idle } }

-- the fetch-and-subtract that gives an amount back
abbrev pub release_move : ℤ → ℕ → ℕ → RoomMove
release_move found held d = record { step = step.Release; mark = Some (GivenBack d); count = found -ℤ pos d; seat = record { held = held - d; phase = Idle } }

-- the next step of a seat that holds this much, if the count is `found`
abbrev pub next_move : ℕ → ℤ → ℕ → RoomPhase → Option RoomMove
next_move bound found held Idle = None
next_move bound found held (Testing d) = Some (test_move (fits bound found d) found held d)
next_move bound found held (Adding d) = Some (add_move (fits bound found d) found held d)
next_move bound found held (Backing d) = Some (back_move found held d)
next_move bound found held (Releasing d) = Some (release_move found held d)

-- the mark that a step of this seat leaves
abbrev pub marks_left : ℕ → Option RoomKind → List RoomMark
marks_left seat None = []
marks_left seat (Some kind) = record { seat = seat; kind = kind } ∷ []

-- the state after a step
abbrev pub moved : RoomState → ℕ → RoomMove → RoomState
moved s seat m = record {
  bound = s.bound;
  count = m.count;
  seats = slice_set s.seats seat m.seat;
  past = marks_left seat m.mark ++ s.past;
}

abbrev pub line_mark : Option RoomKind → Option LineMark
line_mark None = None
line_mark (Some kind) = Some (mark.Room kind)

-- the line that records a step
abbrev pub line_of : RoomState → ℕ → RoomMove → Line
line_of s seat m = record { seat = seat; step = m.step; found = s.count; mark = line_mark m.mark }

abbrev pub or_idle : Option RoomMove → Result RoomMove CoreFault
or_idle None = Err IdleSeat
or_idle (Some m) = Ok m

abbrev pub seat_step : RoomState → Option CoreSeat → Result RoomMove CoreFault
seat_step s None = Err NoSuchSeat
seat_step s (Some x) = or_idle (next_move s.bound s.count x.held x.phase)

-- the step that a seat takes in this state, or why it takes none
abbrev pub step_of : RoomState → ℕ → Result RoomMove CoreFault
step_of s seat = seat_step s (slice_get s.seats seat)

-- ---- beginning a call

-- the amount of a call
abbrev pub amount_of : RoomCall → ℕ
amount_of (Tir d) = d
amount_of (Release d) = d

-- the phase in which a call of a seat that holds this much begins, or why it does not begin
abbrev pub begun_phase : ℕ → RoomPhase → RoomCall → Result RoomPhase CoreFault
begun_phase held Idle (Tir d) = Ok (Testing d)
begun_phase held Idle (Release d) = if nat_lt held d then Err NotHeld else Ok (Releasing d)
begun_phase held (Testing e) call = Err MidCall
begun_phase held (Adding e) call = Err MidCall
begun_phase held (Backing e) call = Err MidCall
begun_phase held (Releasing e) call = Err MidCall

abbrev pub held_with : ℕ → Result RoomPhase CoreFault → Result CoreSeat CoreFault
held_with held (Ok phase) = Ok (record { held = held; phase = phase })
held_with held (Err fault) = Err fault

abbrev pub seat_begin : Option CoreSeat → RoomCall → Result CoreSeat CoreFault
seat_begin None call = Err NoSuchSeat
seat_begin (Some x) call = held_with x.held (begun_phase x.held x.phase call)

-- the seat when its call begins, or why the call does not begin
abbrev pub begin_of : RoomState → ℕ → RoomCall → Result CoreSeat CoreFault
begin_of s seat call = seat_begin (slice_get s.seats seat) call

-- the state with a seat whose call has begun
abbrev pub begun : RoomState → ℕ → CoreSeat → RoomState
begun s seat x = record { bound = s.bound; count = s.count; seats = slice_set s.seats seat x; past = s.past }

-- ---- what the calls of a core ensure

-- the seat takes its step: this is its line, and this is the state after it
pub record IsStep (old : RoomState) (seat : ℕ) (line : Line) (new : RoomState) : Type 0 where
  pub step : RoomMove
  pub is : step_of old seat ≡ Ok step
  pub says : line ≡ line_of old seat step
  pub leaves : new ≡ moved old seat step

-- the call begins
pub record IsBegun (old : RoomState) (seat : ℕ) (call : RoomCall) (new : RoomState) : Type 0 where
  pub at : CoreSeat
  pub is : begin_of old seat call ≡ Ok at
  pub leaves : new ≡ begun old seat at

-- the step leaves a mark
abbrev pub LeavesMark : Result RoomMove CoreFault → Type 0
LeavesMark r = (m : RoomMove) × (r ≡ Ok m) × IsSome m.mark

-- the amount of the seat's open call is in range, and the seat holds what it gives back
abbrev pub HasRange : ℕ → RoomPhase → Type 0
HasRange held Idle = Unit {0}
HasRange held (Testing d) = d ≤ 1024
HasRange held (Adding d) = d ≤ 1024
HasRange held (Backing d) = d ≤ 1024
HasRange held (Releasing d) = (d ≤ 1024) × (d ≤ held)
