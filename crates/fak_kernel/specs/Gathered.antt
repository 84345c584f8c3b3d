-- What the seats of the first processors say together.
use Rattle.std.specs.Prelude.{◌≡◌, ℕ, ◌+◌, ◌<◌, List, map}
use Rattle.std.specs.List.{sum_by}
use Rattle.fak_model.specs.declared.file.FileMark.{FileMark}
use Rattle.fak_model.specs.Calls.{TallyInfo}
use Rattle.fak_model.specs.Histories.{AreNamed}
use Rattle.fak_model.specs.File.{IsFileHistory, file_rules}
use Rattle.fak_text.specs.Script.{ScriptOf}
use Rattle.fak_text.specs.Journal.{NoteOf, Process}
use Rattle.fak_run.specs.declared.report.Outcome.TheVariants.{Ended, Halted}
use Rattle.fak_run.specs.Report.{RowOf}
use Rattle.fak_run.specs.Holds.{FileHold, AreHolds, hold_line, gather_from}
use Rattle.fak_run.specs.Reported.{AreAsOften}
use Rattle.fak_run.specs.Ledger.{Ledger}
use Rattle.fak_processor.specs.Holding.{Have}
use Rattle.fak_processor.specs.Moving.{files_of, row_as}
use Rattle.fak_processor.specs.Processors.{ObjectsOf, ProcessorOf}
use Rattle.fak_processor.specs.Joined.{TalliesOf, AreTalliesOf, HaveNames, first_tallies, tallies_of}

-- the lines of the holds of the first k seats of a table of n entries
pub record FilesJoined (n seats k : ℕ) (t : TallyInfo FileMark) (lines : List NoteOf) : Type 0 where
  pub holds : ℕ → List FileHold
  pub are : (s : ℕ) → s < k → AreHolds n seats s (holds s) t.seen
  pub lawful : IsFileHistory seats t.seen
  pub named : AreNamed (file_rules seats) seats t.seen
  pub often : AreAsOften (gather_from (λ s. map hold_line (holds s)) 0 k) lines

-- what the rows of processes that ended, and of those that halted, weigh
abbrev pub left_weigh : (RowOf → ℕ) → List Process → List Process → ℕ
left_weigh f ended halted = sum_by (λ q. f (row_as Ended q)) ended + sum_by (λ q. f (row_as Halted q)) halted

-- the seats of the first k processors are joined, and these processes ended and halted
pub record AreGathered (script : ScriptOf) (o : ObjectsOf) (k : ℕ) (t : TalliesOf) (ended halted : List Process) : Type 0 where
  pub are : AreTalliesOf o t
  pub names : HaveNames k t
  pub ledger : Ledger
  pub have : Have script (tallies_of t) ledger
  pub rows : (f : RowOf → ℕ) → left_weigh f ended halted ≡ sum_by f ledger.rows
  pub files : FilesJoined o.files.entries o.files.object.seats k t.files (files_of ledger)

-- only one processor: its tallies, and the processes that it saw end and halt
pub record AreOfOne (p : ProcessorOf) (t : TalliesOf) (ended halted : List Process) : Type 0 where
  pub tallies : t ≡ first_tallies p
  pub ended_are : ended ≡ p.ended
  pub halted_are : halted ≡ p.halted
