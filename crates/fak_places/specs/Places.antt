-- The first fault of an input, and the key that it is about.
use Rattle.std.specs.Prelude.{ℕ, List, Option}
use Rattle.std.specs.Result.{result_err}
use Rattle.fak_text.specs.ScheduleText.{schedule_in}
use Rattle.fak_text.specs.HistoryText.{history_in}
use Rattle.fak_text.specs.ScriptText.{script_in}
use Rattle.fak_text.specs.declared.fault.Field.{Field}
use Rattle.fak_text.specs.declared.fault.Field.TheVariants as fields
use Rattle.fak_text.specs.declared.fault.TextFault.{TextFault}
use Rattle.fak_text.specs.declared.fault.TextFault.TheVariants as faults
use Rattle.fak_places.specs.declared.fault_place.Format.{Format}
use Rattle.fak_places.specs.declared.fault_place.Format.TheVariants as formats

-- the first fault of an input, none if it is a value of its format
abbrev pub fault_in : Format → List ℕ → Option TextFault
fault_in formats.Schedule bytes = result_err (schedule_in bytes)
fault_in formats.History bytes = result_err (history_in bytes)
fault_in formats.Script bytes = result_err (script_in bytes)

-- the key of the array whose elements have operations or names
abbrev pub list_of : Format → Field
list_of formats.Schedule = fields.Events
list_of formats.History = fields.Marks
list_of formats.Script = fields.Programs

-- the key that a fault is about, in a format with this array
abbrev pub key_of : Field → TextFault → Field
key_of list faults.NotJson = fields.Input
key_of list (faults.Missing f) = f
key_of list (faults.Range f) = f
key_of list (faults.UnknownOp i) = list
key_of list faults.Memory = fields.Input
