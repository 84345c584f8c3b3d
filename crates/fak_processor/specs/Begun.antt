-- What a processor has when its loop begins, and when it has left it.
use Rattle.std.specs.Prelude.{◌≡◌, ℕ, zero, suc, List, [], ◌∷◌, ◌++◌, map, length, pos}
use Rattle.std.specs.List.{sum_by}
use Rattle.fak_model.specs.declared.queue.Kind.{Kind}
use Rattle.fak_model.specs.Credit.{value}
use Rattle.fak_queue.specs.Queues.{kinds_out}
use Rattle.fak_text.specs.Script.{ScriptOf}
use Rattle.fak_text.specs.Journal.{Process, new_process}
use Rattle.fak_run.specs.ListScheduler.{Lists, enter_ready, first_lists, numbers_from}
use Rattle.fak_run.specs.Report.{RowOf}
use Rattle.fak_run.specs.Making.{AreLines}
use Rattle.fak_run.specs.Ledger.{Balanced, Ledger, NameAndProgram, named, nothing}
use Rattle.fak_run.specs.Whole.{begun_names}
use Rattle.fak_processor.specs.Turning.{Turning}
use Rattle.fak_processor.specs.Processors.{ObjectsOf, ProcessorOf, AreOf, GoesTo, HasName}
use Rattle.fak_processor.specs.Moving.{Gains, MovesNoItem, bundle_of, files_of, rows_weigh}
use Rattle.fak_processor.specs.Joined.{no_seat}

-- processor 0 puts the slots in and starts the processes
abbrev pub IsFirst : ScriptOf → ℕ → Ledger → Type 0
IsFirst script zero l = (map named l.begun ≡ begun_names 0 script.start) × (l.first ≡ numbers_from 0 script.slots)
IsFirst script (suc n) l = (l.begun ≡ []) × (l.first ≡ [])

-- between two turns: nothing is in hand, and the marks of its seats, its rows and its file lines are those of a ledger
pub record Between (script : ScriptOf) (o : ObjectsOf) (name : ℕ) (p : ProcessorOf) : Type 0 where
  pub are : AreOf o p
  pub is : HasName name p
  pub ledger : Ledger
  pub first : IsFirst script name ledger
  pub turning : Turning script (bundle_of no_seat p) ledger []
  pub rows : (f : RowOf → ℕ) → rows_weigh f p ≡ sum_by f ledger.rows
  pub lines : AreLines o.files.entries (files_of ledger) p.files.seat

-- the processor has left its loop, after busy showed 0
pub record IsLeftBy (script : ScriptOf) (o : ObjectsOf) (name : ℕ) (p : ProcessorOf) : Type 0 where
  pub between : Between script o name p
  pub idle : value (length script.start) p.busy.seen ≡ pos 0

-- ---- what processor 0 does before the threads start

-- the started process p gets a slot
abbrev pub begins : ℕ → Process → Ledger
begins j p = record nothing { free = kinds_out j p.slot; begun = p ∷ [] }

-- its seats' own marks and its rows grow by those of a ledger that balances, in which these slots are the first and these
-- processes are started
pub record Begins (script : ScriptOf) (before after : List Process) (first : List ℕ) (begun : List NameAndProgram) (old new : ProcessorOf) : Type 0 where
  pub ledger : Ledger
  pub balanced : Balanced script (length script.semaphores) before after ledger
  pub gains : Gains script old new ledger
  pub first_are : ledger.first ≡ first
  pub begun_are : map named ledger.begun ≡ begun

-- the free queue was empty so far
pub record FindsNoSlot (script : ScriptOf) (old new : ProcessorOf) : Type 0 where
  pub refused : List (Kind ℕ)
  pub idle : MovesNoItem refused
  pub gains : Gains script old new (record nothing { free = refused })

-- this slot was got off the free queue, after refusals Empty
pub record FindsSlot (script : ScriptOf) (slot : ℕ) (old new : ProcessorOf) : Type 0 where
  pub refused : List (Kind ℕ)
  pub idle : MovesNoItem refused
  pub ticket : ℕ
  pub gains : Gains script old new (record nothing { free = refused ++ kinds_out ticket slot })

-- no slot is free yet, and nothing is ready
abbrev pub empty_lists : ScriptOf → Lists
empty_lists script = record (first_lists script) { ready = []; free_slots = [] }

-- the front of the free slots is taken, and the process with this name and program gets it and becomes ready
pub record StartsOne (script : ScriptOf) (s : Lists) (number program : ℕ) (p : ProcessorOf) : Type 0 where
  pub slot : ℕ
  pub others : List ℕ
  pub free : s.free_slots ≡ slot ∷ others
  pub goes : GoesTo script p (enter_ready (record s { free_slots = others }) (new_process (number ∷ []) program slot))
