-- Progress of a room core: a call ends by steps of its own seat, whatever the other seats do meanwhile.
use Rattle.std.specs.Prelude.{ℕ, ◌≡◌, ◌⊎◌, ◌+◌, ◌==◌, cond, Option, None, Some, List, [], ◌∷◌, slice_get}
use Rattle.fak_core.specs.declared.call.RoomCall.TheVariants.{Tir}
use Rattle.fak_core.specs.declared.room.phase.CoreSeat.{CoreSeat}
use Rattle.fak_core.specs.declared.room.phase.RoomPhase.{RoomPhase}
use Rattle.fak_core.specs.declared.room.phase.RoomPhase.TheVariants.{Idle, Testing, Adding, Backing, Releasing}
use Rattle.fak_core.specs.Room.{RoomState, opening}
use Rattle.fak_core.specs.RoomSchedule.{RoomEvent, Begins, Advances, happens, run}

-- the most steps that a seat in this phase takes until its call ends
abbrev pub steps_left : RoomPhase → ℕ
steps_left Idle = 0
steps_left (Testing d) = 3
steps_left (Adding d) = 2
steps_left (Backing d) = 1
steps_left (Releasing d) = 1

-- a seat that does not exist has no call
abbrev pub phase_of : Option CoreSeat → RoomPhase
phase_of None = Idle
phase_of (Some seat) = seat.phase

abbrev pub phase_at : RoomState → ℕ → RoomPhase
phase_at s seat = phase_of (slice_get s.seats seat)

-- 1 if the event is a step of this seat, else 0
abbrev pub own_step : ℕ → RoomEvent → ℕ
own_step seat (Begins s call) = 0
own_step seat (Advances s) = cond (s == seat) 1 0

-- the number of events that are steps of this seat
abbrev pub own_steps : ℕ → List RoomEvent → ℕ
own_steps seat [] = 0
own_steps seat (e ∷ es) = own_step seat e + own_steps seat es

-- the seat is idle before one of these events, or after the last
abbrev pub IsIdleOnce : List RoomEvent → RoomState → ℕ → Type 0
IsIdleOnce [] s seat = phase_at s seat ≡ Idle
IsIdleOnce (e ∷ es) s seat = (phase_at s seat ≡ Idle) ⊎ IsIdleOnce es (happens s e) seat

-- ---- known cases

-- a room of bound 1 in which seats 0 and 1 have begun a claim of 1, and both tests have passed
abbrev pub both_claim : RoomState
both_claim = run (Begins 0 (Tir 1) ∷ Begins 1 (Tir 1) ∷ Advances 0 ∷ Advances 1 ∷ []) (opening 1 2)

-- seat 1 adds before seat 0; so seat 0 finds no room, and withdraws its claim in its third step
abbrev pub withdrawn : List RoomEvent
withdrawn = Advances 1 ∷ Advances 0 ∷ Advances 0 ∷ []
