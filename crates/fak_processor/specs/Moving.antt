-- What a call of a processor adds to its seats' own marks and to its rows, among any number of processors.
use Rattle.std.specs.Prelude.{◌≡◌, ◌⊎◌, ℕ, ◌+◌, ◌==◌, cond, Bool, List, [], ◌∷◌, ◌++◌, length, map, pos, slice_index_or, Option, Some, None}
use Rattle.std.specs.List.{sum_by, flat_map}
use Rattle.fak_model.specs.declared.queue.Kind.{Kind}
use Rattle.fak_model.specs.declared.queue.Mark.{Mark}
use Rattle.fak_model.specs.declared.credit.CreditKind.TheVariants.{Debit, Credit}
use Rattle.fak_model.specs.Calls.{SeatInfo}
use Rattle.fak_model.specs.Queue.{queue_rules}
use Rattle.fak_model.specs.Credit.{credit_rules, value}
use Rattle.fak_model.specs.Credit as credit
use Rattle.fak_sem.specs.Semaphores.{SemInfo, SemSeatInfo, Downs, Ups}
use Rattle.fak_queue.specs.Queues.{kinds_in, kinds_out}
use Rattle.fak_queue.specs.Retries.{RefusedInsertion, RefusedDeletion, kinds_not_in, kinds_not_out}
use Rattle.fak_text.specs.Script.{ScriptOf, down}
use Rattle.fak_text.specs.Journal.{NoteOf, Process, FitsScript, StandsAt, after_note, downed}
use Rattle.fak_run.specs.ListScheduler.{Turn}
use Rattle.fak_run.specs.declared.report.Outcome.{Outcome}
use Rattle.fak_run.specs.declared.report.Outcome.TheVariants.{Ended, Halted}
use Rattle.fak_run.specs.Report.{RowOf}
use Rattle.fak_run.specs.Ledger.{Ledger, Balanced, nothing}
use Rattle.fak_model.specs.Weights.{put_of, got_of, close_of, closed_of}
use Rattle.fak_processor.specs.Events.{closed, empty}
use Rattle.fak_processor.specs.Holding.{queue_kind, Bundle}
use Rattle.fak_processor.specs.Turning.{Grows, Adds}
use Rattle.fak_run.specs.Making.{AreLines}
use Rattle.fak_run.specs.Reported.{file_lines}
use Rattle.fak_processor.specs.Processors.{ProcessorOf, AtPlace}

-- ---- calls on one queue, tried again if they were refused

-- marks that neither put nor get an item
pub record MovesNoItem {T : Type 0} (kinds : List (Kind T)) : Type 0 where
  pub puts : (f : T → ℕ) → sum_by (put_of f) kinds ≡ 0
  pub gots : (f : T → ℕ) → sum_by (got_of f) kinds ≡ 0

-- nor shut the queue, nor find it shut
pub record IsQuiet {T : Type 0} (kinds : List (Kind T)) : Type 0 where
  pub idle : MovesNoItem kinds
  pub closes : sum_by close_of kinds ≡ 0
  pub closeds : sum_by closed_of kinds ≡ 0

-- x was put, after refusals Full
pub record GrowsIn {T : Type 0} (size : ℕ) (x : T) (old new : SeatInfo (Mark T)) : Type 0 where
  pub refused : List (Kind T)
  pub quiet : IsQuiet refused
  pub ticket : ℕ
  pub grows : Grows (queue_rules size) queue_kind old new (refused ++ kinds_in ticket x)

-- the queue was found shut, after refusals Full
pub record GrowsShut {T : Type 0} (size : ℕ) (old new : SeatInfo (Mark T)) : Type 0 where
  pub refused : List (Kind T)
  pub quiet : IsQuiet refused
  pub late : Bool
  pub grows : Grows (queue_rules size) queue_kind old new (refused ++ closed late)

-- refusals Full or Closed
pub record GrowsIdle {T : Type 0} (size : ℕ) (old new : SeatInfo (Mark T)) : Type 0 where
  pub refused : List (Kind T)
  pub idle : MovesNoItem refused
  pub grows : Grows (queue_rules size) queue_kind old new refused

-- x was put, after refusals Full or Closed
pub record GrowsAtLast {T : Type 0} (size : ℕ) (x : T) (old new : SeatInfo (Mark T)) : Type 0 where
  pub refused : List (Kind T)
  pub idle : MovesNoItem refused
  pub ticket : ℕ
  pub grows : Grows (queue_rules size) queue_kind old new (refused ++ kinds_in ticket x)

-- x was got
pub record GrowsOut {T : Type 0} (size : ℕ) (x : T) (old new : SeatInfo (Mark T)) : Type 0 where
  pub ticket : ℕ
  pub grows : Grows (queue_rules size) queue_kind old new (kinds_out ticket x)

-- nothing was there
pub record GrowsEmpty {T : Type 0} (size : ℕ) (old new : SeatInfo (Mark T)) : Type 0 where
  pub late : Bool
  pub grows : Grows (queue_rules size) queue_kind old new (empty late)

-- ---- a processor

-- its seats; d is the seat of each semaphore that does not exist
abbrev pub bundle_of : SemSeatInfo Process → ProcessorOf → Bundle
bundle_of d p = record { ready = p.ready; free = p.free; births = p.births; busy = p.busy; sems = λ s. slice_index_or p.semaphores s d }

abbrev pub row_as : Outcome → Process → RowOf
row_as outcome p = record { process = p; outcome = outcome }

-- the names of its seats
pub record Names : Type 0 where
  pub ready : ℕ
  pub free : ℕ
  pub births : ℕ
  pub busy : ℕ
  pub semaphores : List ℕ
  pub files : ℕ

abbrev pub names_of : ProcessorOf → Names
names_of p = record {
  ready = p.ready.name;
  free = p.free.name;
  births = p.births.name;
  busy = p.busy.name;
  semaphores = map (λ s. s.name) p.semaphores;
  files = p.files.seat.name;
}

-- what its rows weigh
abbrev pub rows_weigh : (RowOf → ℕ) → ProcessorOf → ℕ
rows_weigh f p = sum_by (λ q. f (row_as Ended q)) p.ended + sum_by (λ q. f (row_as Halted q)) p.halted

-- the file lines of a ledger
abbrev pub files_of : Ledger → List NoteOf
files_of l = file_lines (map (λ m. m.note) l.made)

-- the seats' own marks, the rows and the lines of the file table's seat grow by those of the ledger
pub record Gains (script : ScriptOf) (old new : ProcessorOf) (l : Ledger) : Type 0 where
  pub names : names_of new ≡ names_of old
  pub adds : (d : SemSeatInfo Process) → Adds script (bundle_of d old) (bundle_of d new) l
  pub rows : (f : RowOf → ℕ) → rows_weigh f new ≡ rows_weigh f old + sum_by f l.rows
  pub lines : (before : List NoteOf) → AreLines script.files before old.files.seat → AreLines script.files (before ++ files_of l) new.files.seat

-- no slot was put in first, and no process was started
abbrev pub BeginsNone : Ledger → Type 0
BeginsNone l = (l.begun ≡ []) × (l.first ≡ [])

-- they grow by those of a ledger that balances, by which the processes in hand become others
pub record Moves (script : ScriptOf) (before after : List Process) (old new : ProcessorOf) : Type 0 where
  pub ledger : Ledger
  pub begins : BeginsNone ledger
  pub balanced : Balanced script (length script.semaphores) before after ledger
  pub gains : Gains script old new ledger

-- the process, if any, that has the processor
abbrev pub hand_of : Option Turn → List Process
hand_of None = []
hand_of (Some turn) = turn.process ∷ []

-- ---- busy counts a process from before it is ready until after it is not

-- busy was credited
abbrev pub IsCredited : ProcessorOf → ProcessorOf → Type 0
IsCredited old new = Grows credit_rules credit.kind_of old.busy new.busy (Credit ∷ [])

-- nobody has entered the ready queue, or busy was credited
abbrev pub EntersCredited : ProcessorOf → ProcessorOf → Type 0
EntersCredited old new = (new.ready ≡ old.ready) ⊎ IsCredited old new

-- ---- what parts of steps add

-- calls on the semaphore at this place
abbrev pub at_one : {A : Type 0} → ℕ → List A → ℕ → List A
at_one at kinds t = cond (at == t) kinds []

abbrev pub DownsAt : List SemInfo → ℕ → Process → Option Process → List (SemSeatInfo Process) → List (SemSeatInfo Process) → Type 0
DownsAt sems at who answer old new = AtPlace at old new (λ was is. (sem : SemInfo) × (sem ≡ slice_index_or sems at sem) × Downs sem who was is answer)

abbrev pub UpsAt : List SemInfo → ℕ → Option Process → List (SemSeatInfo Process) → List (SemSeatInfo Process) → Type 0
UpsAt sems at answer old new = AtPlace at old new (λ was is. (sem : SemInfo) × (sem ≡ slice_index_or sems at sem) × Ups sem was is answer)

-- a debit, and the sleeper is put onto the wait queue
pub record GainsParked (script : ScriptOf) (at : ℕ) (who : Process) (old new : ProcessorOf) : Type 0 where
  pub refused : List RefusedInsertion
  pub ticket : ℕ
  pub gains : Gains script old new (record nothing { credits = at_one at (Debit ∷ []); waits = at_one at (flat_map kinds_not_in refused ++ kinds_in ticket who) })

-- a credit, and a sleeper is got off the wait queue and makes the down that is its next step
pub record GainsWoken (script : ScriptOf) (at : ℕ) (woken : Process) (old new : ProcessorOf) : Type 0 where
  pub sleeper : Process
  pub semaphore : ℕ
  pub stands : StandsAt script sleeper (down semaphore)
  pub fits : FitsScript script sleeper
  pub woken_is : woken ≡ after_note sleeper (downed semaphore)
  pub refused : List RefusedDeletion
  pub ticket : ℕ
  pub gains : Gains script old new (record nothing { credits = at_one at (Credit ∷ []); waits = at_one at (flat_map kinds_not_out refused ++ kinds_out ticket sleeper) })

-- nobody is in hand, and busy showed 0
pub record LeavesNone (script : ScriptOf) (old new : ProcessorOf) : Type 0 where
  pub moves : Moves script [] [] old new
  pub idle : value (length script.start) new.busy.seen ≡ pos 0
