-- What the objects of a run have left once all seats are joined.
use Rattle.std.specs.Prelude.{◌≡◌, ℕ, ◌+◌, nat_lt, List, ◌++◌}
use Rattle.std.specs.List.{All, flat_map}
use Rattle.fak_model.specs.Queue.{contents}
use Rattle.fak_model.specs.Seats.{IsWhole}
use Rattle.fak_sem.specs.Grants.{IsSettled}
use Rattle.fak_sem.specs.Semaphores.{SemId, SemTallyInfo, seats_of}
use Rattle.fak_text.specs.Script.{ScriptOf, down}
use Rattle.fak_text.specs.Journal.{Process, FitsScript, StandsAt}
use Rattle.fak_run.specs.declared.report.Outcome.TheVariants.{Ended, Halted}
use Rattle.fak_run.specs.Report.{RowOf, rows_with, sleepers_outcome}
use Rattle.fak_run.specs.Ledger.{shuts_of}
use Rattle.fak_run.specs.Whole.{lines_of}
use Rattle.fak_processor.specs.Joined.{ids_of_tallies}

-- a process that sleeps fits the script, and its next step is a down
pub record IsSleeper (script : ScriptOf) (p : Process) : Type 0 where
  pub fits : FitsScript script p
  pub semaphore : ℕ
  pub stands : StandsAt script p (down semaphore)

-- who sleeps at a semaphore, oldest first
abbrev pub left_at : SemTallyInfo Process → List Process
left_at t = contents t.queue_seen

-- all its seats are joined, and what its histories say then
abbrev pub IsWholeAt : SemTallyInfo Process → Type 0
IsWholeAt t = IsWhole (seats_of t.object) t.names

abbrev pub IsSettledAt : SemTallyInfo Process → Type 0
IsSettledAt t = IsSettled t.object.start t.credit_seen t.queue_seen

-- the semaphores of these tallies were closed, and these processes slept there, semaphore by semaphore
pub record AreClosed (script : ScriptOf) (tallies : List (SemTallyInfo Process)) (asleep : List Process) : Type 0 where
  pub asleep_are : asleep ≡ flat_map left_at tallies
  pub settled : All IsSettledAt tallies
  pub sleepers : All (IsSleeper script) asleep

-- the last of these semaphores are still to be closed
pub record AreClosing (script : ScriptOf) (ids : List SemId) (rest tallies : List (SemTallyInfo Process)) (asleep : List Process) : Type 0 where
  pub ids_are : ids_of_tallies rest ≡ ids
  pub whole : All IsWholeAt rest
  pub asleep_are : asleep ++ flat_map left_at rest ≡ flat_map left_at tallies
  pub settled : All IsSettledAt rest → All IsSettledAt tallies
  pub sleepers : All (IsSleeper script) asleep

-- how many shutdown lines there are
abbrev pub shut_lines : List Process → List Process → List Process → ℕ
shut_lines ended halted asleep = (lines_of shuts_of ended + lines_of shuts_of halted) + lines_of shuts_of asleep

-- the rows of those that ended, halted and sleep, who are halted too if there is a shutdown line
abbrev pub rows_left : List Process → List Process → List Process → List RowOf
rows_left ended halted asleep = rows_with Ended ended ++ rows_with Halted halted ++ rows_with (sleepers_outcome (nat_lt 0 (shut_lines ended halted asleep))) asleep
