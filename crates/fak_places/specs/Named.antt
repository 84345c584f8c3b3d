-- What the readers return if the name of an operation or a step is known.
use Rattle.std.specs.Prelude.{ℕ, ◌==◌, ◌&&◌, Bool, true, false, List, [], codes, Option, Some, None, is_some, nat_le, Result, option_and_then, unwrap_or, if◌then◌else◌}
use Rattle.std.specs.Str.{bytes_eq}
use Rattle.serde_json.specs.Data.{Data}
use Rattle.serde_json.specs.Find.{get, as_str}
use Rattle.fak_text.specs.Fields.{name_of}
use Rattle.fak_text.specs.Gives.{◌>>=◌}
use Rattle.fak_text.specs.Values.{value_or}
use Rattle.fak_text.specs.ScheduleText.{room_op, queue_op, op_named, act_from}
use Rattle.fak_text.specs.StepText.{step_op_named, step_with, step_from, program_from}
use Rattle.fak_text.specs.Script.{StepOf}
use Rattle.fak_text.specs.declared.fault.TextFault.{TextFault}
use Rattle.fak_text.specs.declared.fault.TextFault.TheVariants.{UnknownOp}
use Rattle.fak_text.specs.declared.schedule.Act.{Act}
use Rattle.fak_text.specs.declared.schedule.Object as o
use Rattle.fak_text.specs.declared.schedule.Object.TheVariants as objects
use Rattle.fak_text.specs.declared.fault.Field.TheVariants.{Object}
use Rattle.fak_places.specs.declared.step.Limits.{Limits}

-- what a seat of a room does by an operation of this name
abbrev pub room_act : List ℕ → ℕ → Option ℕ → Result Act TextFault
room_act name size number = value_or (UnknownOp 0) (room_op name) >>= λ op. act_from op size number

-- what a seat of a queue does by an operation of this name
abbrev pub queue_act : List ℕ → ℕ → Option ℕ → Result Act TextFault
queue_act name size number = value_or (UnknownOp 0) (queue_op name) >>= λ op. act_from op size number

-- what a seat of the object does by an operation of this name
abbrev pub act_named : o.Object → List ℕ → ℕ → Option ℕ → Result Act TextFault
act_named object name size number = value_or (UnknownOp 0) (op_named object name) >>= λ op. act_from op size number

-- the step of this name, in a script with these limits
abbrev pub step_named : Limits → List ℕ → ℕ → Option (List ℕ) → Option ℕ → Result StepOf TextFault
step_named limits name size text number =
    value_or (UnknownOp 0) (step_op_named limits.version name)
    >>= λ op. step_with (record { version = limits.version; semaphores = limits.semaphores; programs = limits.programs }) op size text number

-- the step that a value is, in a script with these limits
abbrev pub step_in : Limits → Data → Result StepOf TextFault
step_in limits d = step_from (record { version = limits.version; semaphores = limits.semaphores; programs = limits.programs }) 0 d

-- the program that a value is, in a script with these limits
abbrev pub program_in : Limits → Data → Result (List StepOf) TextFault
program_in limits d = program_from (record { version = limits.version; semaphores = limits.semaphores; programs = limits.programs }) 0 d

-- the object of this name, with any bound or size
unfoldable pub object_of_name : List ℕ → o.Object
object_of_name name = if bytes_eq name (codes "room") then objects.Room 0 else objects.Queue 1

-- the name of a schedule's object; empty if it has none
abbrev pub object_name : Data → List ℕ
object_name d = unwrap_or (option_and_then as_str (get (name_of Object) d)) []

-- whether the mark of this name bears a number; none if no mark has the name
unfoldable pub bears_named : List ℕ → Option Bool
bears_named name =
    if bytes_eq name (codes "claim-in") then Some false else (
    if bytes_eq name (codes "over-in") then Some false else (
    if bytes_eq name (codes "back-in") then Some false else (
    if bytes_eq name (codes "no-room") then Some false else (
    if bytes_eq name (codes "put") then Some true else (
    if bytes_eq name (codes "fill") then Some true else (
    if bytes_eq name (codes "end-in") then Some false else (
    if bytes_eq name (codes "claim-out") then Some false else (
    if bytes_eq name (codes "over-out") then Some false else (
    if bytes_eq name (codes "back-out") then Some false else (
    if bytes_eq name (codes "no-item") then Some false else (
    if bytes_eq name (codes "got") then Some true else (
    if bytes_eq name (codes "take") then Some true else (
    if bytes_eq name (codes "end-out") then Some false else (
    if bytes_eq name (codes "close") then Some false else (
    if bytes_eq name (codes "closed") then Some false else (
    if bytes_eq name (codes "late-in") then Some false else None))))))))))))))))

-- a mark that bears a number has three elements, the last a number, and any other mark two
abbrev pub is_whole_mark : Bool → ℕ → Option ℕ → Bool
is_whole_mark false size number = size == 2
is_whole_mark true size number = (size == 3) && is_some number

-- a mark whose name bears a number, or none, or is unknown, with this seat, this many elements and this third one
abbrev pub is_right_mark : Option Bool → ℕ → ℕ → Option ℕ → Bool
is_right_mark None seat size number = false
is_right_mark (Some bears) seat size number = nat_le seat 63 && is_whole_mark bears size number
