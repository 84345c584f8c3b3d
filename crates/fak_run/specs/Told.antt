-- Notes, rows and reports without their said texts, and the same with the texts of their script.
use Rattle.std.specs.Prelude.{ℕ, List, [], ◌∷◌, map, Option, Some, None}
use Rattle.fak_text.specs.Script.{StepOf, say, ScriptOf, steps_of}
use Rattle.fak_text.specs.Journal.{NoteOf, said}
use Rattle.fak_run.specs.Report.{RowOf, ReportOf}

-- the text that a step says, or else the given one
abbrev pub said_by : StepOf → List ℕ → List ℕ
said_by (say text) given = text
said_by _ given = given

-- the note of this step, with the text that the step says
abbrev pub told : StepOf → NoteOf → NoteOf
told step (said given) = said (said_by step given)
told step note = note

-- the same, if there is a step
abbrev pub told_by : Option StepOf → NoteOf → NoteOf
told_by None note = note
told_by (Some step) note = told step note

-- the notes of these steps, with the texts that the steps say
abbrev pub told_notes : List StepOf → List NoteOf → List NoteOf
told_notes steps [] = []
told_notes [] (note ∷ notes) = note ∷ told_notes [] notes
told_notes (step ∷ steps) (note ∷ notes) = told step note ∷ told_notes steps notes

-- the row of a process of this script, with its said texts
abbrev pub told_row : ScriptOf → RowOf → RowOf
told_row script row = record {
  process = record row.process { journal = told_notes (steps_of script row.process.program) row.process.journal };
  outcome = row.outcome;
}

-- the rows of processes of this script, with their said texts
abbrev pub told_rows : ScriptOf → List RowOf → List RowOf
told_rows script rows = map (told_row script) rows

-- the report of a run of this script, with its said texts
abbrev pub told_report : ScriptOf → ReportOf → ReportOf
told_report script report = record report { rows = told_rows script report.rows }
