-- Which script an input is, and which fault is its first.
use Rattle.std.specs.Prelude.{ℕ, List, length, Option, Some, None, Result, Ok}
use Rattle.serde_json.specs.Data.{Data}
use Rattle.serde_json.specs.Find.{get}
use Rattle.fak_model.specs.Limits.{longest_stint}
use Rattle.fak_text.specs.Fields.{name_of}
use Rattle.fak_text.specs.Gives.{◌>>=◌}
use Rattle.fak_text.specs.Script.{ScriptOf}
use Rattle.fak_text.specs.StepText.{programs_of_key}
use Rattle.fak_text.specs.Values.{input_in, whole_number, number_within, number_below, number_of_key, elements_of_key, each_from}
use Rattle.fak_text.specs.declared.fault.Field.{Field}
use Rattle.fak_text.specs.declared.fault.Field.TheVariants as fields
use Rattle.fak_text.specs.declared.fault.TextFault.{TextFault}

-- a whole number below the bound
abbrev pub number_from : Field → ℕ → ℕ → Data → Result ℕ TextFault
number_from f bound i d = number_below f bound (whole_number d)

-- the array of a key, at most this many whole numbers below the bound
unfoldable pub numbers_of_key : Field → ℕ → ℕ → Data → Result (List ℕ) TextFault
numbers_of_key f most bound d = do
  ds ← elements_of_key f most d
  each_from (number_from f bound) 0 ds

abbrev pub stint_or_most : Option Data → Result ℕ TextFault
stint_or_most None = Ok longest_stint
stint_or_most (Some value) = number_within fields.Stint 1 longest_stint (whole_number value)

-- the stint, the greatest if the key is absent
unfoldable pub stint_of_key : Data → Result ℕ TextFault
stint_of_key d = stint_or_most (get (name_of fields.Stint) d)

-- a semaphore's start is below this
abbrev pub semaphore_bound : ℕ
semaphore_bound = 1000001

unfoldable pub script_from : Data → Result ScriptOf TextFault
script_from d = do
  version ← number_of_key fields.Version 1 2 d
  slots ← number_of_key fields.Slots 1 64 d
  births ← number_of_key fields.Births 0 1000 d
  quantum ← number_of_key fields.Quantum 1 1000 d
  stint ← stint_of_key d
  semaphores ← numbers_of_key fields.Semaphores 16 semaphore_bound d
  files ← number_of_key fields.Files 1 16 d
  programs ← programs_of_key version (length semaphores) d
  start ← numbers_of_key fields.Start slots (length programs) d
  Ok (record {
    version = version;
    slots = slots;
    births = births;
    quantum = quantum;
    stint = stint;
    semaphores = semaphores;
    files = files;
    programs = programs;
    start = start;
  })

-- the script of an input
abbrev pub script_in : List ℕ → Result ScriptOf TextFault
script_in bytes = input_in bytes >>= script_from
