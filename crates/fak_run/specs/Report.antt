-- Reports as plain data, and the report of the list scheduler.
use Rattle.std.specs.Prelude.{◌≡◌, ℕ, ◌++◌, if◌then◌else◌, Bool, true, false, List, map}
use Rattle.std.specs.List.{flat_map, list_any}
use Rattle.std.specs.List.Sorted.{IsPermutation, IsSortedByKey}
use Rattle.std.specs.Cmp.Lexicographic.{slice_cmp}
use Rattle.std.specs.Ordering.{nat_cmp}
use Rattle.fak_model.specs.declared.file.FileEntry.{FileEntry}
use Rattle.fak_text.specs.Script.{ScriptOf}
use Rattle.fak_text.specs.Journal.{Process}
use Rattle.fak_run.specs.declared.report.Outcome.{Outcome}
use Rattle.fak_run.specs.declared.report.Outcome.TheVariants.{Ended, Stuck, Halted}
use Rattle.fak_run.specs.ListScheduler.{Lists, EndsIn}

-- a process at the end of a run
pub record RowOf : Type 0 where
  pub process : Process
  pub outcome : Outcome

-- a report, with its texts as bytes
pub record ReportOf : Type 0 where
  pub version : ℕ
  pub rows : List RowOf
  pub births : ℕ
  pub bound : ℕ
  pub entries : List FileEntry

-- rows of processes with the same outcome
abbrev pub rows_with : Outcome → List Process → List RowOf
rows_with outcome processes = map (λ p. record { process = p; outcome = outcome }) processes

-- processes that sleep at the end are halted if the ready list was shut, else stuck
abbrev pub sleepers_outcome : Bool → Outcome
sleepers_outcome is_shut = (if is_shut then Halted else Stuck)

-- the rows of all processes at the end
abbrev pub rows_at : Lists → List RowOf
rows_at s = rows_with Ended s.ended ++ rows_with Halted s.halted ++ rows_with (sleepers_outcome s.is_shut) (flat_map (λ waiting. waiting) s.sleepers)

-- sorted by name, number by number, a prefix first
abbrev pub IsSortedByName : List RowOf → Type 0
IsSortedByName rows = IsSortedByKey (λ row. row.process.name) (slice_cmp nat_cmp) rows

-- the report of the lists at the end
pub record IsReportOf (script : ScriptOf) (s : Lists) (report : ReportOf) : Type 0 where
  pub version : report.version ≡ script.version
  pub rows : IsPermutation (rows_at s) report.rows
  pub sorted : IsSortedByName report.rows
  pub births : report.births ≡ s.births
  pub bound : report.bound ≡ script.births
  pub entries : report.entries ≡ s.entries

-- the report of the list scheduler for this script
abbrev pub ListSchedulerReports : ScriptOf → ReportOf → Type 0
ListSchedulerReports script report = (s : Lists) × EndsIn script s × IsReportOf script s report

-- whether the process reached the end of its program
abbrev pub is_ended : Outcome → Bool
is_ended Ended = true
is_ended _ = false

-- whether no process is left that could wake it
abbrev pub is_stuck : Outcome → Bool
is_stuck Stuck = true
is_stuck _ = false

-- whether the process found the ready list shut
abbrev pub is_halted : Outcome → Bool
is_halted Halted = true
is_halted _ = false

-- the program's exit status: 3 if a process is stuck, else 0
abbrev pub exit_status : ReportOf → ℕ
exit_status report = (if list_any (λ row. is_stuck row.outcome) report.rows then 3 else 0)
