-- Which steps and programs a script's text has, and which fault is their first.
use Rattle.std.specs.Prelude.{ℕ, ◌+◌, ◌==◌, ◌&&◌, Bool, true, List, length, codes, Option, Some, None, Result, Ok, Err, nat_le, if◌then◌else◌}
use Rattle.std.specs.List.{list_all}
use Rattle.std.specs.Str.{bytes_eq}
use Rattle.serde_json.specs.Data.{Data, Items}
use Rattle.serde_json.specs.Find.{as_array}
use Rattle.serde_json.specs.Events.{items_len}
use Rattle.fak_text.specs.Gives.{◌>>=◌}
use Rattle.fak_text.specs.Script.{StepOf, say, yield, down, up, open_file, close_file, stat, spawn, shutdown, most_inode}
use Rattle.fak_text.specs.Values.{value_or, number_within, number_below, number_at, text_at, elements_within, elements_of_key, running_from, each_from}
use Rattle.fak_text.specs.declared.fault.Field.TheVariants.{Programs}
use Rattle.fak_text.specs.declared.fault.TextFault.{TextFault}
use Rattle.fak_text.specs.declared.fault.TextFault.TheVariants.{Range, UnknownOp}
use Rattle.fak_text.specs.declared.reading.step.StepOp.{StepOp}
use Rattle.fak_text.specs.declared.reading.step.StepOp.TheVariants as ops
use Rattle.fak_text.specs.declared.steps.StepLimits.{StepLimits}

-- the operation of this name, in any version
unfoldable pub any_op_named : List ℕ → Option StepOp
any_op_named name =
    if bytes_eq name (codes "say") then Some ops.Say else (
    if bytes_eq name (codes "yield") then Some ops.Yield else (
    if bytes_eq name (codes "down") then Some ops.Down else (
    if bytes_eq name (codes "up") then Some ops.Up else (
    if bytes_eq name (codes "open") then Some ops.OpenFile else (
    if bytes_eq name (codes "close") then Some ops.CloseFile else (
    if bytes_eq name (codes "stat") then Some ops.Stat else (
    if bytes_eq name (codes "spawn") then Some ops.Spawn else (
    if bytes_eq name (codes "shutdown") then Some ops.Shutdown else None))))))))

-- version 1 has no shutdown
abbrev pub has_op : ℕ → StepOp → Bool
has_op version ops.Shutdown = version == 2
has_op version _ = true

abbrev pub op_of_version : ℕ → Option StepOp → Option StepOp
op_of_version version None = None
op_of_version version (Some op) = if has_op version op then Some op else None

-- the operation of this name, in scripts of this version
abbrev pub step_op_named : ℕ → List ℕ → Option StepOp
step_op_named version name = op_of_version version (any_op_named name)

-- a character from space to tilde
abbrev pub is_printable : ℕ → Bool
is_printable character = nat_le 32 character && nat_le character 126

-- 0 to 80 characters, each printable
abbrev pub is_sayable : List ℕ → Bool
is_sayable text = nat_le (length text) 80 && list_all is_printable text

-- the text that is said, the second of two elements
abbrev pub said_text : ℕ → Option (List ℕ) → Result (List ℕ) TextFault
said_text size None = Err (Range Programs)
said_text size (Some text) = if (size == 2) && is_sayable text then Ok text else Err (Range Programs)

-- a step of one element
abbrev pub lone_step : StepOf → ℕ → Result StepOf TextFault
lone_step step size = if size == 1 then Ok step else Err (Range Programs)

-- the second of two elements, an inode
abbrev pub inode_argument : ℕ → Option ℕ → Result ℕ TextFault
inode_argument size number = if size == 2 then number_within Programs 1 most_inode number else Err (Range Programs)

-- the second of two elements, a number below the bound
abbrev pub argument_below : ℕ → ℕ → Option ℕ → Result ℕ TextFault
argument_below size bound number = if size == 2 then number_below Programs bound number else Err (Range Programs)

-- the step of an operation, if it has this many elements, and this text or this number for its second
abbrev pub step_with : StepLimits → StepOp → ℕ → Option (List ℕ) → Option ℕ → Result StepOf TextFault
step_with limits ops.Say size text number = said_text size text >>= λ t. Ok (say t)
step_with limits ops.Yield size text number = lone_step yield size
step_with limits ops.Down size text number = argument_below size limits.semaphores number >>= λ s. Ok (down s)
step_with limits ops.Up size text number = argument_below size limits.semaphores number >>= λ s. Ok (up s)
step_with limits ops.OpenFile size text number = inode_argument size number >>= λ n. Ok (open_file n)
step_with limits ops.CloseFile size text number = inode_argument size number >>= λ n. Ok (close_file n)
step_with limits ops.Stat size text number = inode_argument size number >>= λ n. Ok (stat n)
step_with limits ops.Spawn size text number = argument_below size limits.programs number >>= λ p. Ok (spawn p)
step_with limits ops.Shutdown size text number = lone_step shutdown size

-- the step of this index among the steps of all programs
unfoldable pub step_from : StepLimits → ℕ → Data → Result StepOf TextFault
step_from limits i d = do
  ds ← value_or (Range Programs) (as_array d)
  name ← value_or (Range Programs) (text_at 0 d)
  op ← value_or (UnknownOp i) (step_op_named limits.version name)
  step_with limits op (items_len ds) (text_at 1 d) (number_at 1 d)

abbrev pub most_steps : ℕ
most_steps = 1000

-- the program whose first step has this index
unfoldable pub program_from : StepLimits → ℕ → Data → Result (List StepOf) TextFault
program_from limits i d = do
  ds ← elements_within Programs most_steps d
  each_from (step_from limits) i ds

-- the index after the steps of a program
abbrev pub index_after : ℕ → List StepOf → ℕ
index_after i steps = i + length steps

-- the programs of an array
abbrev pub programs_from : StepLimits → ℕ → Items → Result (List (List StepOf)) TextFault
programs_from limits i ds = running_from (program_from limits) index_after i ds

abbrev pub most_programs : ℕ
most_programs = 64

-- the programs of a script of this version with this many semaphores
unfoldable pub programs_of_key : ℕ → ℕ → Data → Result (List (List StepOf)) TextFault
programs_of_key version semaphores d = do
  ds ← elements_of_key Programs most_programs d
  programs_from (record { version = version; semaphores = semaphores; programs = items_len ds }) 0 ds
