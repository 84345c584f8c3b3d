-- What the laws of scripts, journals and names say.
use Rattle.std.specs.Prelude.{◌≡◌, ℕ, ◌<◌, ◌≤◌, List, length, slice_get, Some, unwrap_or}
use Rattle.fak_model.specs.declared.queue.Kind.{Kind}
use Rattle.fak_text.specs.HistoryText.{kind_named}
use Rattle.fak_text.specs.Journal.{NoteOf, Process, child_count, new_process, after_note, StandsAt, Allows, FitsScript}
use Rattle.fak_text.specs.Names.{kind_name, number_of}
use Rattle.fak_text.specs.Script.{StepOf, ScriptOf, steps_of, limits_of, IsStepInRange, IsInRange}

abbrev pub EachStepIsInRange : Type 0
EachStepIsInRange = (script : ScriptOf) (program position : ℕ) (step : StepOf) → IsInRange script → slice_get (steps_of script program) position ≡ Some step → IsStepInRange (limits_of script) step

abbrev pub EachNewProcessFits : Type 0
EachNewProcessFits = (script : ScriptOf) (name : List ℕ) (program slot : ℕ) → program < length script.programs → slot < script.slots → FitsScript script (new_process name program slot)

abbrev pub EachAllowedNoteFits : Type 0
EachAllowedNoteFits = (script : ScriptOf) (process : Process) (step : StepOf) (note : NoteOf) → FitsScript script process → StandsAt script process step
    → Allows script.files (child_count process.journal) step note → FitsScript script (after_note process note)

abbrev pub EachPositionIsInProgram : Type 0
EachPositionIsInProgram = (script : ScriptOf) (process : Process) → FitsScript script process → process.position ≤ length (steps_of script process.program)

abbrev pub EachMarkIsReadByItsName : Type 0
EachMarkIsReadByItsName = (kind : Kind ℕ) (n : ℕ) → kind_named (kind_name kind) (unwrap_or (number_of kind) n) ≡ Some kind
