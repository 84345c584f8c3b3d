-- Small scripts and reports of them: reports that a run may have, and reports that break one of its promises.
use Rattle.std.specs.Prelude.{ℕ, List, [], ◌∷◌, length, codes}
use Rattle.fak_model.specs.Limits.{longest_stint}
use Rattle.fak_model.specs.declared.file.FileEntry.{FileEntry}
use Rattle.fak_text.specs.Script.{ScriptOf, StepOf, down, open_file, spawn, shutdown}
use Rattle.fak_text.specs.Journal.{NoteOf, said, yielded, spawned, shut_down}
use Rattle.fak_run.specs.declared.report.Outcome.{Outcome}
use Rattle.fak_run.specs.declared.report.Outcome.TheVariants.{Ended, Stuck, Halted}
use Rattle.fak_run.specs.Examples.{used}
use Rattle.fak_run.specs.Files.{free_entry}
use Rattle.fak_run.specs.Report.{RowOf, ReportOf}

-- a script with three slots and one file
abbrev pub small : ℕ → ℕ → List ℕ → List (List StepOf) → List ℕ → ScriptOf
small version births semaphores programs start = record {
  version = version;
  slots = 3;
  births = births;
  quantum = 4;
  stint = longest_stint;
  semaphores = semaphores;
  files = 1;
  programs = programs;
  start = start;
}

-- a process that spawns a child, with this many births allowed
abbrev pub parent : ℕ → ScriptOf
parent births = small 1 births [] ((spawn 1 ∷ []) ∷ [] ∷ [] ∷ []) (0 ∷ [])

-- two processes that come to a semaphore with this start
abbrev pub pair_at : ℕ → ScriptOf
pair_at count = small 1 0 (count ∷ 9 ∷ []) ((down 0 ∷ []) ∷ []) (0 ∷ 0 ∷ [])

-- a process that shuts the ready list, and then sleeps
abbrev pub shutter : ScriptOf
shutter = small 2 0 (0 ∷ []) ((shutdown ∷ down 0 ∷ []) ∷ []) (0 ∷ [])

-- a process that opens a file
abbrev pub opener : ScriptOf
opener = small 1 0 [] ((open_file 7 ∷ []) ∷ []) (0 ∷ [])

-- the row of a process that has taken the steps of its journal
abbrev pub left_row : List ℕ → ℕ → ℕ → List NoteOf → Outcome → RowOf
left_row name program slot journal outcome = record {
  process = record { name = name; program = program; slot = slot; position = length journal; journal = journal };
  outcome = outcome;
}

-- a report with one entry
abbrev pub tells : ℕ → ℕ → ℕ → List RowOf → FileEntry → ReportOf
tells version births bound rows entry = record { version = version; rows = rows; births = births; bound = bound; entries = entry ∷ [] }

-- the parent's row, and its child's
abbrev pub parent_row : List NoteOf → RowOf
parent_row journal = left_row (0 ∷ []) 0 0 journal Ended

abbrev pub child_row : RowOf
child_row = left_row (0 ∷ 0 ∷ []) 1 1 [] Ended

abbrev pub family_rows : List RowOf
family_rows = parent_row (spawned 0 ∷ []) ∷ child_row ∷ []

-- a report of version 1: two processes have ended and one is stuck, and the entry between two others is free
abbrev pub stuck_report : ReportOf
stuck_report = record {
  version = 1;
  rows = left_row (0 ∷ []) 1 2 (said (codes "a b") ∷ spawned 0 ∷ []) Ended
      ∷ left_row (0 ∷ 0 ∷ []) 3 0 (yielded ∷ []) Ended
      ∷ left_row (1 ∷ []) 4 5 [] Stuck ∷ [];
  births = 1;
  bound = 6;
  entries = used 7 2 ∷ free_entry ∷ used 9 8 ∷ [];
}

-- a report of version 2: two processes were halted and one has ended, and there are no entries
abbrev pub halted_report : ReportOf
halted_report = record {
  version = 2;
  rows = left_row (0 ∷ []) 0 0 [] Halted
      ∷ left_row (1 ∷ []) 1 1 (shut_down ∷ []) Ended
      ∷ left_row (2 ∷ []) 0 2 [] Halted ∷ [];
  births = 0;
  bound = 3;
  entries = [];
}
