-- Scripts as plain data, without their place in memory. A text is its bytes.
use Rattle.std.specs.Prelude.{◌≡◌, ℕ, ◌<◌, ◌≤◌, List, [], All, length, slice_get, Option, Some, None}
use Rattle.fak_model.specs.Limits.{longest_stint}
use Rattle.fak_text.specs.declared.steps.StepLimits.{StepLimits}

-- a step of a program
pub data StepOf : Type 0 where
  say : List ℕ → StepOf
  yield : StepOf
  down : ℕ → StepOf
  up : ℕ → StepOf
  open_file : ℕ → StepOf
  close_file : ℕ → StepOf
  stat : ℕ → StepOf
  spawn : ℕ → StepOf
  shutdown : StepOf

-- a script, by the keys of its text
pub record ScriptOf : Type 0 where
  pub version : ℕ
  pub slots : ℕ
  pub births : ℕ
  pub quantum : ℕ
  pub stint : ℕ
  pub semaphores : List ℕ
  pub files : ℕ
  pub programs : List (List StepOf)
  pub start : List ℕ

abbrev pub steps_or_none : Option (List StepOf) → List StepOf
steps_or_none None = []
steps_or_none (Some steps) = steps

-- the steps of a program of the script
abbrev pub steps_of : ScriptOf → ℕ → List StepOf
steps_of script program = steps_or_none (slice_get script.programs program)

-- low to high, both included
abbrev pub IsWithin : ℕ → ℕ → ℕ → Type 0
IsWithin low high n = (low ≤ n) × (n ≤ high)

-- a text that may be said: 0 to 80 characters, each from space to tilde
abbrev pub IsSayable : List ℕ → Type 0
IsSayable text = (length text ≤ 80) × All (λ character. IsWithin 32 126 character) text

abbrev pub most_inode : ℕ
most_inode = 4294967296

-- a step that a script with these limits may have
abbrev pub IsStepInRange : StepLimits → StepOf → Type 0
IsStepInRange limits (say text) = IsSayable text
IsStepInRange limits yield = Unit {0}
IsStepInRange limits (down s) = s < limits.semaphores
IsStepInRange limits (up s) = s < limits.semaphores
IsStepInRange limits (open_file n) = IsWithin 1 most_inode n
IsStepInRange limits (close_file n) = IsWithin 1 most_inode n
IsStepInRange limits (stat n) = IsWithin 1 most_inode n
IsStepInRange limits (spawn p) = p < limits.programs
IsStepInRange limits shutdown = limits.version ≡ 2

-- at most 1,000 steps, each in range
abbrev pub IsProgramInRange : StepLimits → List StepOf → Type 0
IsProgramInRange limits steps = (length steps ≤ 1000) × All (λ step. IsStepInRange limits step) steps

-- what the steps of a script may name
abbrev pub limits_of : ScriptOf → StepLimits
limits_of script = record { version = script.version; semaphores = length script.semaphores; programs = length script.programs }

-- all values of a script are in range
pub record IsInRange (script : ScriptOf) : Type 0 where
  pub version : IsWithin 1 2 script.version
  pub slots : IsWithin 1 64 script.slots
  pub births : script.births ≤ 1000
  pub quantum : IsWithin 1 1000 script.quantum
  pub stint : IsWithin 1 longest_stint script.stint
  pub semaphore_count : length script.semaphores ≤ 16
  pub semaphores : All (λ value. value ≤ 1000000) script.semaphores
  pub files : IsWithin 1 16 script.files
  pub program_count : length script.programs ≤ 64
  pub programs : All (λ steps. IsProgramInRange (limits_of script) steps) script.programs
  pub start_count : length script.start ≤ script.slots
  pub start : All (λ program. program < length script.programs) script.start
