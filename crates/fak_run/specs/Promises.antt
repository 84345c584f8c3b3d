-- What a report of a run promises, as plain data.
use Rattle.std.specs.Prelude.{◌≡◌, ℕ, ◌+◌, ◌<◌, ◌≤◌, ◌==◌, cond, min, false, List, [], ◌∷◌, ◌++◌, length, map, slice_index}
use Rattle.std.specs.List.{sum_by, flat_map, All, AllPairs}
use Rattle.std.specs.List.Sorted.{IsPermutation}
use Rattle.fak_text.specs.Script.{ScriptOf, StepOf, steps_of}
use Rattle.fak_text.specs.Journal.{NoteOf, Process, births_of}
use Rattle.fak_run.specs.declared.report.Outcome.{Outcome}
use Rattle.fak_run.specs.declared.report.Outcome.TheVariants.{Ended, Stuck}
use Rattle.fak_run.specs.Report.{RowOf, is_ended}
use Rattle.fak_run.specs.Ledger.{NameAndProgram, named, child, downs_of, ups_of, shuts_of, no_births_of, no_slots_of, stuck_of, halted_of, not_before, FitsRow}
use Rattle.fak_run.specs.Whole.{begun_names, lines}

-- the children that a journal names, read next to the steps of its program
abbrev pub children_from : List ℕ → List StepOf → List NoteOf → List NameAndProgram
children_from name steps [] = []
children_from name [] (note ∷ notes) = []
children_from name (step ∷ steps) (note ∷ notes) = child name step note ++ children_from name steps notes

abbrev pub children_of : ScriptOf → Process → List NameAndProgram
children_of script p = children_from p.name (steps_of script p.program) p.journal

-- the names in spawn lines, each with the program of its step
abbrev pub spawned_names : ScriptOf → List RowOf → List NameAndProgram
spawned_names script rows = flat_map (λ r. children_of script r.process) rows

abbrev pub stuck_at : ScriptOf → ℕ → Outcome → Process → ℕ
stuck_at script s Stuck p = cond (not_before script s p == 0) 1 0
stuck_at script s _ p = 0

-- the rows that are stuck before a down of s
abbrev pub stuck_before : ScriptOf → ℕ → List RowOf → ℕ
stuck_before script s rows = sum_by (λ r. stuck_at script s r.outcome r.process) rows

-- a slot that a row still has
abbrev pub kept_slot : (ℕ → ℕ) → Outcome → ℕ → ℕ
kept_slot g Ended slot = 0
kept_slot g _ slot = g slot

-- what the rows of a report promise
pub record Promised (script : ScriptOf) (rows : List RowOf) : Type 0 where
  -- the names are those of the started and spawned processes, each with its program, each once
  pub names : IsPermutation (begun_names 0 script.start ++ spawned_names script rows) (map (λ r. named r.process) rows)
  pub once : AllPairs (λ a b. a.process.name ≡ b.process.name → ⊥) rows
  pub births : length (spawned_names script rows) ≡ lines births_of rows
  pub count : length rows ≡ length script.start + length (spawned_names script rows)
  pub bound : length (spawned_names script rows) ≤ script.births
  pub no_birth : 0 < lines no_births_of rows → script.births ≤ lines births_of rows + lines no_slots_of rows
  -- each row fits, its slot is in range, and rows that have not ended have different slots
  pub fits : All (FitsRow script) rows
  pub slots : AllPairs (λ a b. is_ended a.outcome ≡ false → is_ended b.outcome ≡ false → a.process.slot ≡ b.process.slot → ⊥) rows
  -- a process halts only if there is a shutdown line, and then none is stuck
  pub halted : 0 < sum_by (λ r. halted_of r.outcome) rows → 0 < lines shuts_of rows
  pub none_stuck : 0 < lines shuts_of rows → sum_by (λ r. stuck_of r.outcome) rows ≡ 0
  -- each semaphore grants the smaller of two numbers: its downs, and its start plus its ups
  pub granted : lines shuts_of rows ≡ 0 → (s : ℕ) → s < length script.semaphores
      → lines (downs_of s) rows ≡ min (lines (downs_of s) rows + stuck_before script s rows) (slice_index script.semaphores s + lines (ups_of s) rows)
