-- Which schedule an input is, and which fault is its first.
use Rattle.std.specs.Prelude.{ℕ, ◌==◌, ◌≤◌, All, length, List, codes, Option, Some, None, Result, Ok, Err, if◌then◌else◌}
use Rattle.std.specs.Str.{bytes_eq}
use Rattle.serde_json.specs.Data.{Data}
use Rattle.serde_json.specs.Find.{as_str, as_array}
use Rattle.serde_json.specs.Events.{items_len}
use Rattle.fak_core.specs.declared.call.RoomCall.TheVariants as room_calls
use Rattle.fak_core.specs.declared.call.QueueCall.TheVariants as queue_calls
use Rattle.fak_text.specs.Gives.{◌>>=◌}
use Rattle.fak_text.specs.Values.{value_or, input_in, number_within, number_at, text_at, value_of_key, number_of_key, elements_of_key, each_from}
use Rattle.fak_text.specs.declared.fault.Field.TheVariants as fields
use Rattle.fak_text.specs.declared.fault.TextFault.{TextFault}
use Rattle.fak_text.specs.declared.fault.TextFault.TheVariants.{Range, UnknownOp}
use Rattle.fak_text.specs.declared.schedule.Object as o
use Rattle.fak_text.specs.declared.schedule.Object.TheVariants as objects
use Rattle.fak_text.specs.declared.schedule.Act.{Act}
use Rattle.fak_text.specs.declared.schedule.Act.TheVariants as acts
use Rattle.fak_text.specs.declared.schedule.Event.{Event}
use Rattle.fak_text.specs.declared.schedule.Schedule.{Schedule}
use Rattle.fak_text.specs.declared.reading.schedule.Op.{Op}
use Rattle.fak_text.specs.declared.reading.schedule.Op.TheVariants as ops

-- a schedule as plain data
pub record ScheduleOf : Type 0 where
  pub object : o.Object
  pub seats : ℕ
  pub events : List Event

abbrev pub schedule_of : Schedule → ScheduleOf
schedule_of s = record { object = s.object; seats = s.seats; events = s.events.items }

unfoldable pub room_op : List ℕ → Option Op
room_op name =
    if bytes_eq name (codes "step") then Some ops.Step else (
    if bytes_eq name (codes "tir") then Some ops.Tir else (
    if bytes_eq name (codes "release") then Some ops.Release else None))

unfoldable pub queue_op : List ℕ → Option Op
queue_op name =
    if bytes_eq name (codes "step") then Some ops.Step else (
    if bytes_eq name (codes "insert") then Some ops.Insert else (
    if bytes_eq name (codes "delete") then Some ops.Delete else (
    if bytes_eq name (codes "shut") then Some ops.Shut else None)))

-- the operation of this name that the object has
abbrev pub op_named : o.Object → List ℕ → Option Op
op_named (objects.Room bound) name = room_op name
op_named (objects.Queue size) name = queue_op name

-- an event of two elements
abbrev pub without_number : Act → ℕ → Result Act TextFault
without_number act size = if size == 2 then Ok act else Err (Range fields.Events)

-- the third of three elements, any whole number
abbrev pub third : ℕ → Option ℕ → Result ℕ TextFault
third size number = if size == 3 then value_or (Range fields.Events) number else Err (Range fields.Events)

-- the third of three elements, a number in range
abbrev pub third_within : ℕ → ℕ → ℕ → Option ℕ → Result ℕ TextFault
third_within low high size number = if size == 3 then number_within fields.Events low high number else Err (Range fields.Events)

-- the number of steps, 1 if there is none
unfoldable pub steps_act : ℕ → Option ℕ → Result Act TextFault
steps_act size number = if size == 2 then Ok (acts.Steps 1) else (third_within 1 64 size number >>= λ n. Ok (acts.Steps n))

abbrev pub most_amount : ℕ
most_amount = 1024

-- what the seat does, if the event has this many elements and this third one
abbrev pub act_from : Op → ℕ → Option ℕ → Result Act TextFault
act_from ops.Step size number = steps_act size number
act_from ops.Tir size number = third_within 1 most_amount size number >>= λ d. Ok (acts.Room (room_calls.Tir d))
act_from ops.Release size number = third_within 1 most_amount size number >>= λ d. Ok (acts.Room (room_calls.Release d))
act_from ops.Insert size number = third size number >>= λ x. Ok (acts.Queue (queue_calls.Insert x))
act_from ops.Delete size number = without_number (acts.Queue queue_calls.Delete) size
act_from ops.Shut size number = without_number (acts.Queue queue_calls.Shut) size

-- the event of this index
unfoldable pub event_from : o.Object → ℕ → Data → Result Event TextFault
event_from object i d = do
  ds ← value_or (Range fields.Events) (as_array d)
  seat ← value_or (Range fields.Events) (number_at 0 d)
  name ← value_or (Range fields.Events) (text_at 1 d)
  op ← value_or (UnknownOp i) (op_named object name)
  act ← act_from op (items_len ds) (number_at 2 d)
  Ok (record { seat = seat; act = act })

-- the object of this name, with its bound or size
unfoldable pub object_named : List ℕ → Data → Result o.Object TextFault
object_named name d =
    if bytes_eq name (codes "room") then (number_of_key fields.Bound 0 4294967296 d >>= λ bound. Ok (objects.Room bound)) else (
    if bytes_eq name (codes "queue") then (number_of_key fields.Size 1 4096 d >>= λ size. Ok (objects.Queue size)) else
    Err (Range fields.Object))

unfoldable pub object_from : Data → Result o.Object TextFault
object_from d = do
  value ← value_of_key fields.Object d
  name ← value_or (Range fields.Object) (as_str value)
  object_named name d

abbrev pub most_events : ℕ
most_events = 16384

unfoldable pub schedule_from : Data → Result ScheduleOf TextFault
schedule_from d = do
  object ← object_from d
  seats ← number_of_key fields.Seats 1 64 d
  ds ← elements_of_key fields.Events most_events d
  events ← each_from (event_from object) 0 ds
  Ok (record { object = object; seats = seats; events = events })

-- the schedule of an input
abbrev pub schedule_in : List ℕ → Result ScheduleOf TextFault
schedule_in bytes = input_in bytes >>= schedule_from

-- ---- what every schedule that is read keeps to

abbrev pub IsObjectInRange : o.Object → Type 0
IsObjectInRange (objects.Room bound) = bound ≤ 4294967296
IsObjectInRange (objects.Queue size) = (1 ≤ size) × (size ≤ 4096)

-- the number of an act is in range
abbrev pub IsActInRange : Act → Type 0
IsActInRange (acts.Steps n) = (1 ≤ n) × (n ≤ 64)
IsActInRange (acts.Room (room_calls.Tir d)) = (1 ≤ d) × (d ≤ most_amount)
IsActInRange (acts.Room (room_calls.Release d)) = (1 ≤ d) × (d ≤ most_amount)
IsActInRange (acts.Queue call) = Unit {0}

-- steps, or a call on the object
abbrev pub IsActOf : o.Object → Act → Type 0
IsActOf object (acts.Steps n) = Unit {0}
IsActOf (objects.Room bound) (acts.Room call) = Unit {0}
IsActOf (objects.Room bound) (acts.Queue call) = ⊥
IsActOf (objects.Queue size) (acts.Room call) = ⊥
IsActOf (objects.Queue size) (acts.Queue call) = Unit {0}

pub record IsScheduleInRange (s : ScheduleOf) : Type 0 where
  pub object : IsObjectInRange s.object
  pub seats : (1 ≤ s.seats) × (s.seats ≤ 64)
  pub count : length s.events ≤ most_events
  pub acts : All (λ event. IsActInRange event.act) s.events
  pub calls : All (λ event. IsActOf s.object event.act) s.events
