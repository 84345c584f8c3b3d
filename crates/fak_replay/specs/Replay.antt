-- What a replay prints: the atomic steps of a schedule's core, and the events that it refuses.
use Rattle.std.specs.Prelude.{◌≡◌, ℕ, Option, Some, None, Result, Ok, Err, List, [], ◌∷◌, ◌++◌, replicate, slice_set}
use Rattle.std.specs.List.{flat_map}
use Rattle.fak_core.specs.declared.fault.CoreFault.{CoreFault}
use Rattle.fak_core.specs.declared.fault.CoreFault.TheVariants as core_faults
use Rattle.fak_core.specs.declared.room.phase.CoreSeat.{CoreSeat}
use Rattle.fak_core.specs.declared.room.step.RoomMove.{RoomMove}
use Rattle.fak_core.specs.declared.queue.phase.Phase.{Phase}
use Rattle.fak_core.specs.declared.queue.step.QueueMove.{QueueMove}
use Rattle.fak_core.specs.QueueFields as queue
use Rattle.fak_core.specs.Room as room
use Rattle.fak_core.specs.Room.{RoomState}
use Rattle.fak_core.specs.QueueFields.{QueueFields}
use Rattle.fak_text.specs.declared.schedule.Act.{Act}
use Rattle.fak_text.specs.declared.schedule.Act.TheVariants as acts
use Rattle.fak_text.specs.declared.schedule.Event.{Event}
use Rattle.fak_text.specs.declared.schedule.Object.{Object}
use Rattle.fak_text.specs.declared.schedule.Object.TheVariants as objects
use Rattle.fak_text.specs.LineText.{text_of_line, text_of_refusal}
use Rattle.fak_text.specs.Names.{IsRefusal}
use Rattle.fak_text.specs.ScheduleText.{ScheduleOf}
use Rattle.fak_replay.specs.declared.fault.MainFault.{MainFault}
use Rattle.fak_replay.specs.declared.fault.MainFault.TheVariants.{Memory}
use Rattle.fak_replay.specs.declared.machine.Machine.{Machine}
use Rattle.fak_replay.specs.declared.machine.Machine.TheVariants as machines
use Rattle.fak_replay.specs.declared.row.Row.{Row}
use Rattle.fak_replay.specs.declared.row.Row.TheVariants.{Moved, Refused}

-- ---- actions

-- one thing that a seat does: it takes a step, or begins a call
pub data Action : Type 0 where
  steps : ℕ → Action
  begins : ℕ → Act → Action

abbrev pub actions_of_act : ℕ → Act → List Action
actions_of_act seat (acts.Steps n) = replicate n (steps seat)
actions_of_act seat act = begins seat act ∷ []

-- what the seat of an event does, one after the other
abbrev pub actions_of : Event → List Action
actions_of event = actions_of_act event.seat event.act

-- ---- what an action does

-- the rows of an action that prints one at most
abbrev pub list_of : Option Row → List Row
list_of None = []
list_of (Some row) = row ∷ []

-- the core after an action, and the rows that the action prints
pub record ReplayOutcome : Type 0 where
  pub machine : Machine
  pub rows : List Row

abbrev pub room_stepped : RoomState → ℕ → Result RoomMove CoreFault → ReplayOutcome
room_stepped s seat (Ok step) = record { machine = machines.Room (room.moved s seat step); rows = Moved (room.line_of s seat step) ∷ [] }
room_stepped s seat (Err fault) = record { machine = machines.Room s; rows = Refused seat fault ∷ [] }

abbrev pub room_begun : RoomState → ℕ → Result CoreSeat CoreFault → ReplayOutcome
room_begun s seat (Ok x) = record { machine = machines.Room (room.begun s seat x); rows = [] }
room_begun s seat (Err fault) = record { machine = machines.Room s; rows = Refused seat fault ∷ [] }

abbrev pub queue_stepped : QueueFields → ℕ → Result (QueueMove ℕ) CoreFault → ReplayOutcome
queue_stepped f seat (Ok step) = record { machine = machines.Queue (queue.moved_fields f seat step); rows = Moved (queue.line_of seat step) ∷ [] }
queue_stepped f seat (Err fault) = record { machine = machines.Queue f; rows = Refused seat fault ∷ [] }

abbrev pub queue_begun : QueueFields → ℕ → Result (Phase ℕ) CoreFault → ReplayOutcome
queue_begun f seat (Ok phase) = record { machine = machines.Queue (record f { phases = slice_set f.phases seat phase }); rows = [] }
queue_begun f seat (Err fault) = record { machine = machines.Queue f; rows = Refused seat fault ∷ [] }

-- a call begins; a schedule has only calls on its own object, and any other is passed over
abbrev pub begin_outcome : Machine → ℕ → Act → ReplayOutcome
begin_outcome (machines.Room s) seat (acts.Room call) = room_begun s seat (room.begin_of s seat call)
begin_outcome (machines.Queue f) seat (acts.Queue call) = queue_begun f seat (queue.begin_of f seat call)
begin_outcome machine seat _ = record { machine = machine; rows = [] }

abbrev pub outcome_of : Machine → Action → ReplayOutcome
outcome_of (machines.Room s) (steps seat) = room_stepped s seat (room.step_of s seat)
outcome_of (machines.Queue f) (steps seat) = queue_stepped f seat (queue.step_of f seat)
outcome_of machine (begins seat act) = begin_outcome machine seat act

-- the rows of these actions, from this state of the core on
abbrev pub rows_from : Machine → List Action → List Row
rows_from machine [] = []
rows_from machine (action ∷ actions) = (outcome_of machine action).rows ++ rows_from (outcome_of machine action).machine actions

-- a row that shows a refusal shows one of a call or a step
abbrev pub IsShownRow : Row → Type 0
IsShownRow (Moved line) = Unit {0}
IsShownRow (Refused seat fault) = IsRefusal fault

-- a step that a core refuses has a row, unless there was no memory for its mark
abbrev pub IsRefusedStep : ℕ → CoreFault → Result Row MainFault → Type 0
IsRefusedStep seat core_faults.Memory result = result ≡ Err Memory
IsRefusedStep seat core_faults.BadSize result = result ≡ Ok (Refused seat core_faults.BadSize)
IsRefusedStep seat core_faults.BadSeats result = result ≡ Ok (Refused seat core_faults.BadSeats)
IsRefusedStep seat core_faults.NoSuchSeat result = result ≡ Ok (Refused seat core_faults.NoSuchSeat)
IsRefusedStep seat core_faults.MidCall result = result ≡ Ok (Refused seat core_faults.MidCall)
IsRefusedStep seat core_faults.IdleSeat result = result ≡ Ok (Refused seat core_faults.IdleSeat)
IsRefusedStep seat core_faults.NotHeld result = result ≡ Ok (Refused seat core_faults.NotHeld)

-- ---- texts

-- the line of a row
abbrev pub text_of_row : Row → List ℕ
text_of_row (Moved line) = text_of_line line
text_of_row (Refused seat fault) = text_of_refusal seat fault

-- rows, a line each
abbrev pub text_of_rows : List Row → List ℕ
text_of_rows rows = flat_map (λ row. text_of_row row ++ 10 ∷ []) rows

-- the core as a schedule begins
abbrev pub machine_of : Object → ℕ → Machine
machine_of (objects.Room bound) seats = machines.Room (room.opening bound seats)
machine_of (objects.Queue size) seats = machines.Queue (queue.opening_fields size seats)

-- the text of a schedule's replay
abbrev pub replay_of : ScheduleOf → List ℕ
replay_of schedule = text_of_rows (rows_from (machine_of schedule.object schedule.seats) (flat_map actions_of schedule.events))
