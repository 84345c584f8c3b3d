-- Schedules of a room core, and the states that they reach.
use Rattle.std.specs.Prelude.{ℕ, ◌≡◌, ◌≤◌, Result, Ok, Err, List, [], ◌∷◌, All, length}
use Rattle.fak_core.specs.declared.call.RoomCall.{RoomCall}
use Rattle.fak_core.specs.declared.fault.CoreFault.{CoreFault}
use Rattle.fak_core.specs.declared.room.phase.CoreSeat.{CoreSeat}
use Rattle.fak_core.specs.declared.room.step.RoomMove.{RoomMove}
use Rattle.fak_core.specs.Room.{RoomState, opening, moved, step_of, begin_of, begun, amount_of}

-- an event of a schedule: a seat begins a call, or takes its next step
pub data RoomEvent : Type 0 where
  Begins : (seat : ℕ) → (call : RoomCall) → RoomEvent
  Advances : (seat : ℕ) → RoomEvent

-- amounts are 1 to 1,024
abbrev pub IsEvent : RoomEvent → Type 0
IsEvent (Begins seat call) = (1 ≤ amount_of call) × (amount_of call ≤ 1024)
IsEvent (Advances seat) = Unit {0}

abbrev pub after_step : RoomState → ℕ → Result RoomMove CoreFault → RoomState
after_step s seat (Ok m) = moved s seat m
after_step s seat (Err fault) = s

abbrev pub after_begin : RoomState → ℕ → Result CoreSeat CoreFault → RoomState
after_begin s seat (Ok x) = begun s seat x
after_begin s seat (Err fault) = s

-- the state after an event; a refused event changes nothing
abbrev pub happens : RoomState → RoomEvent → RoomState
happens s (Begins seat call) = after_begin s seat (begin_of s seat call)
happens s (Advances seat) = after_step s seat (step_of s seat)

-- the state after a schedule
abbrev pub run : List RoomEvent → RoomState → RoomState
run [] s = s
run (e ∷ es) s = run es (happens s e)

-- some schedule leads from the opening state to this one
pub record IsReached (bound seats : ℕ) (s : RoomState) : Type 0 where
  pub schedule : List RoomEvent
  pub events : All IsEvent schedule
  pub leads : run schedule (opening bound seats) ≡ s

-- a reached state within the limits of a room core
pub record IsSound (s : RoomState) : Type 0 where
  pub reached : IsReached s.bound (length s.seats) s
  pub bound : s.bound ≤ 4294967296
  pub seats : length s.seats ≤ 64
