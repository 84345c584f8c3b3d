-- The text of a report.
use Rattle.std.specs.Prelude.{◌≡◌, ℕ, ◌+◌, ◌==◌, if◌then◌else◌, Bool, List, [], ◌∷◌, ◌++◌, codes, decimal, count_by}
use Rattle.std.specs.List.{flat_map}
use Rattle.fak_model.specs.declared.file.FileEntry.{FileEntry}
use Rattle.fak_text.specs.JournalText.{text_of_name, text_of_journal}
use Rattle.fak_text.specs.Script.{ScriptOf}
use Rattle.fak_run.specs.declared.report.Outcome.{Outcome}
use Rattle.fak_run.specs.declared.report.Outcome.TheVariants.{Ended, Stuck, Halted}
use Rattle.fak_run.specs.RunReports.{RunReports}
use Rattle.fak_run.specs.Report.{RowOf, ReportOf, ListSchedulerReports, is_ended, is_stuck, is_halted, exit_status}

-- the text of an outcome
abbrev pub outcome_name : Outcome → List ℕ
outcome_name Ended = codes "ended"
outcome_name Stuck = codes "stuck"
outcome_name Halted = codes "halted"

-- the line of a row: its name, program, slot and outcome
abbrev pub line_of_row : RowOf → List ℕ
line_of_row row = codes "process " ++ text_of_name row.process.name ++ codes " program " ++ decimal row.process.program ++ codes " slot " ++ decimal row.process.slot ++ codes " " ++ outcome_name row.outcome ++ codes "\n"

-- the line of a row, and its journal
abbrev pub text_of_row : RowOf → List ℕ
text_of_row row = line_of_row row ++ text_of_journal row.process.name row.process.journal

-- the line of entry i, unless it is free
abbrev pub text_of_entry : ℕ → FileEntry → List ℕ
text_of_entry i e = (if e.inode == 0 then [] else codes "file " ++ decimal i ++ codes " inode " ++ decimal e.inode ++ codes " uses " ++ decimal e.uses ++ codes "\n")

-- the lines of these entries, which are numbered from i on
abbrev pub text_of_entries : ℕ → List FileEntry → List ℕ
text_of_entries i [] = []
text_of_entries i (e ∷ es) = text_of_entry i e ++ text_of_entries (i + 1) es

-- the number of children that were started, and the number that may be
abbrev pub text_of_births : ReportOf → List ℕ
text_of_births report = codes "births " ++ decimal report.births ++ codes " of " ++ decimal report.bound ++ codes "\n"

-- the number of processes with such an outcome
abbrev pub count_rows : (Outcome → Bool) → List RowOf → ℕ
count_rows is rows = count_by (λ row. is row.outcome) rows

-- the number of halted processes, in reports of version 2 only
abbrev pub text_of_halted : ReportOf → List ℕ
text_of_halted report = (if report.version == 2 then codes " halted " ++ decimal (count_rows is_halted report.rows) else [])

-- the number of processes with each outcome
abbrev pub text_of_outcomes : ReportOf → List ℕ
text_of_outcomes report = codes "ended " ++ decimal (count_rows is_ended report.rows) ++ codes " stuck " ++ decimal (count_rows is_stuck report.rows) ++ text_of_halted report ++ codes "\n"

-- the rows with their journals, the open files, the births, and the number of processes with each outcome
abbrev pub text_of_report : ReportOf → List ℕ
text_of_report report = flat_map text_of_row report.rows ++ text_of_entries 0 report.entries ++ text_of_births report ++ text_of_outcomes report

-- one processor runs the script, and prints this text as its report, with this exit status
pub record ListSchedulerPrints (script : ScriptOf) (text : List ℕ) (status : ℕ) : Type 0 where
  pub report : ReportOf
  pub reports : ListSchedulerReports script report
  pub text_is : text ≡ text_of_report report
  pub status_is : status ≡ exit_status report

-- processors run the script, and print this text as a report that keeps its promises, with this exit status
pub record RunPrints (script : ScriptOf) (text : List ℕ) (status : ℕ) : Type 0 where
  pub report : ReportOf
  pub reports : RunReports script report
  pub text_is : text ≡ text_of_report report
  pub status_is : status ≡ exit_status report
