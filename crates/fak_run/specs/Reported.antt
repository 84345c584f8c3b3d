-- The file lines of a report replay.
use Rattle.std.specs.Prelude.{◌≡◌, ℕ, Bool, true, false, List, replicate}
use Rattle.std.specs.List.{filter, flat_map, sum_by}
use Rattle.fak_text.specs.Journal.{NoteOf, opened, closed, statted}
use Rattle.fak_run.specs.Files.{free_entry}
use Rattle.fak_run.specs.Report.{ReportOf}
use Rattle.fak_run.specs.Replays.{Replays}

-- the lines of opens, closes and stats
abbrev pub is_file_line : NoteOf → Bool
is_file_line (opened inode entry) = true
is_file_line (closed inode entry) = true
is_file_line (statted inode uses) = true
is_file_line _ = false

abbrev pub file_lines : List NoteOf → List NoteOf
file_lines lines = filter is_file_line lines

-- the lines of all rows
abbrev pub report_lines : ReportOf → List NoteOf
report_lines report = flat_map (λ row. row.process.journal) report.rows

-- each line occurs as often in one list as in the other: under any weight of lines, both lists weigh the same
abbrev pub AreAsOften : List NoteOf → List NoteOf → Type 0
AreAsOften lines others = (weight : NoteOf → ℕ) → sum_by weight lines ≡ sum_by weight others

-- the open, close and stat lines of all rows, in some order, replay from free entries and lead to the entries of the
-- report
pub record FilesReplay (files : ℕ) (report : ReportOf) : Type 0 where
  pub list : List NoteOf
  pub as_often : AreAsOften list (file_lines (report_lines report))
  pub replays : Replays (replicate files free_entry) list report.entries
