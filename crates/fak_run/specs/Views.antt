-- The program's rows and reports as plain data.
use Rattle.std.specs.Prelude.{map}
use Rattle.fak_text.specs.Views.{note_of}
use Rattle.fak_run.specs.declared.report.ProcessRow.{ProcessRow}
use Rattle.fak_run.specs.declared.report.Report.{Report}
use Rattle.fak_run.specs.Report.{RowOf, ReportOf}

-- the row of plain data that a row of the program shows
abbrev pub row_of : ProcessRow → RowOf
row_of r = record {
  process = record { name = r.name.items; program = r.program; slot = r.slot; position = r.position; journal = map note_of r.journal.items };
  outcome = r.outcome;
}

-- the report of plain data that a report of the program shows
abbrev pub report_of : Report → ReportOf
report_of r = record { version = r.version; rows = map row_of r.rows.items; births = r.births; bound = r.bound; entries = r.entries.items }
