-- A processor's seats, and the lists of the list scheduler that fit them.
use Rattle.std.specs.Prelude.{◌≡◌, ℕ, ◌+◌, ◌-◌, true, false, nat_lt, List, [], ◌∷◌, ◌++◌, All, length, map, slice_index, slice_index_or, slice_set, Option}
use Rattle.fak_model.specs.declared.file.FileEntry.{FileEntry}
use Rattle.fak_model.specs.declared.credit.CreditMark.{CreditMark}
use Rattle.fak_model.specs.declared.room.RoomMark.{RoomMark}
use Rattle.fak_model.specs.declared.queue.Mark.{Mark}
use Rattle.fak_model.specs.Calls.{SeatInfo}
use Rattle.fak_model.specs.Queue.{contents}
use Rattle.fak_count.specs.Credits.{CreditInfo}
use Rattle.fak_count.specs.Rooms.{RoomInfo, held_amount}
use Rattle.fak_queue.specs.declared.state.SeatState.TheVariants.{Idle}
use Rattle.fak_queue.specs.Queues.{QueueInfo, state_of}
use Rattle.fak_sem.specs.Semaphores.{SemInfo, SemId, SemSeatInfo}
use Rattle.fak_files.specs.Calls.{FileTableInfo, FileSeatInfo}
use Rattle.fak_files.specs.declared.phase.Hold.{Hold}
use Rattle.fak_files.specs.declared.phase.Hold.TheVariants.{Nothing}
use Rattle.fak_text.specs.Script.{ScriptOf}
use Rattle.fak_text.specs.Journal.{Process, downed, after_note}
use Rattle.fak_run.specs.ListScheduler.{Lists, State, Turn, steps, opening}
use Rattle.fak_run.specs.Contexts.{WaitAtTheirs}
use Rattle.fak_processor.specs.OnlyQueues.{IsOnlySeat, has_close}
use Rattle.fak_processor.specs.OnlyCounts.{IsOnlySem, IsOnlyRoom, semaphore_count, sleepers_of}
use Rattle.fak_run.specs.OnlyFiles.{IsOnlyFiles, entries_now}

-- what all processors share
pub record ObjectsOf : Type 0 where
  pub ready : QueueInfo
  pub free : QueueInfo
  pub semaphores : List SemInfo
  pub births : RoomInfo
  pub busy : CreditInfo
  pub files : FileTableInfo

-- a processor: a seat of each object, and the processes that it has seen end or halt
pub record ProcessorOf : Type 0 where
  pub ready : SeatInfo (Mark Process)
  pub free : SeatInfo (Mark ℕ)
  pub semaphores : List (SemSeatInfo Process)
  pub births : SeatInfo RoomMark
  pub busy : SeatInfo CreditMark
  pub files : FileSeatInfo
  pub ended : List Process
  pub halted : List Process
  pub copy : List FileEntry

-- the semaphores that seats belong to
abbrev pub ids_of_seats : List (SemSeatInfo Process) → List SemId
ids_of_seats seats = map (λ s. s.object) seats

abbrev pub ids_of : List SemInfo → List SemId
ids_of semaphores = map (λ s. s.object) semaphores

-- the seat belongs to this table and has this hold, and the copy has an entry for each of the table's
abbrev pub HoldsTable : FileTableInfo → Hold → FileSeatInfo → List FileEntry → Type 0
HoldsTable table hold s copy = (s.seat.object ≡ table.object) × (s.hold ≡ hold) × (length copy ≡ table.entries)

-- the seats belong to these objects, and are between two calls
pub record AreOf (o : ObjectsOf) (p : ProcessorOf) : Type 0 where
  pub ready : p.ready.object ≡ o.ready.object
  pub ready_idle : state_of p.ready ≡ Idle
  pub free : p.free.object ≡ o.free.object
  pub free_idle : state_of p.free ≡ Idle
  pub semaphores : ids_of_seats p.semaphores ≡ ids_of o.semaphores
  pub births : p.births.object ≡ o.births.object
  pub busy : p.busy.object ≡ o.busy.object
  pub files : p.files.seat.object ≡ o.files.object
  pub files_free : p.files.hold ≡ Nothing
  pub copy : length p.copy ≡ o.files.entries

-- the seats are those of this processor
pub record HasName (name : ℕ) (p : ProcessorOf) : Type 0 where
  pub ready : p.ready.name ≡ name
  pub free : p.free.name ≡ name
  pub births : p.births.name ≡ name
  pub busy : p.busy.name ≡ name
  pub semaphores : All (λ (s : SemSeatInfo Process). s.name ≡ name) p.semaphores
  pub files : p.files.seat.name ≡ name

-- the objects were opened for this script
pub record AreFor (script : ScriptOf) (o : ObjectsOf) : Type 0 where
  pub ready : o.ready.size ≡ script.slots
  pub free : o.free.size ≡ script.slots
  pub births : o.births.bound ≡ script.births
  pub busy : o.busy.start ≡ length script.start
  pub files : o.files.entries ≡ script.files
  pub semaphores : length o.semaphores ≡ length script.semaphores
  pub starts : map (λ (s : SemInfo). s.object.start) o.semaphores ≡ script.semaphores
  pub waits : All (λ (s : SemInfo). s.size ≡ script.slots) o.semaphores

-- the processor is the only one
pub record IsAlone (script : ScriptOf) (p : ProcessorOf) : Type 0 where
  pub ready : IsOnlySeat p.ready
  pub free : IsOnlySeat p.free
  pub semaphores : All IsOnlySem p.semaphores
  pub asleep : WaitAtTheirs script (map sleepers_of p.semaphores)
  pub births : IsOnlyRoom p.births
  pub files : IsOnlyFiles p.files

-- what the list scheduler has if this is the only processor
abbrev pub lists_of : ScriptOf → ProcessorOf → Lists
lists_of script p = record {
  ready = contents p.ready.seen;
  free_slots = contents p.free.seen;
  counts = map semaphore_count p.semaphores;
  sleepers = map sleepers_of p.semaphores;
  entries = entries_now script.files p.files;
  births = held_amount p.births;
  is_shut = has_close p.ready.seen;
  ended = p.ended;
  halted = p.halted;
}

-- the only processor stays so, and the lists are these
pub record GoesTo (script : ScriptOf) (p : ProcessorOf) (lists : Lists) : Type 0 where
  pub alone : IsAlone script p
  pub lists_are : lists_of script p ≡ lists

-- ---- one of several seats

-- the seat at this place performed a call
pub record AtPlace {X : Type 0} (at : ℕ) (old new : List X) (call : X → X → Type 0) : Type 0 where
  pub was : X
  pub is : X
  pub stood : was ≡ slice_index_or old at was
  pub stands : new ≡ slice_set old at is
  pub made : call was is

-- ---- what parts of steps do, if the processor is the only one and has these lists

-- between two small steps
pub record GoesOn (script : ScriptOf) (p : ProcessorOf) (running : Option Turn) (s : State) : Type 0 where
  pub alone : IsAlone script p
  pub state_is : record { running = running; lists = lists_of script p } ≡ s

-- nobody sleeps at the semaphore, and its count rises
pub record WakesNobody (script : ScriptOf) (s : Lists) (at : ℕ) (p : ProcessorOf) : Type 0 where
  pub nobody : slice_index_or s.sleepers at [] ≡ []
  pub goes : GoesTo script p (record s { counts = slice_set s.counts at (slice_index s.counts at + 1) })

-- the first who sleeps there wakes
pub record WakesFirst (script : ScriptOf) (s : Lists) (at : ℕ) (woken : Process) (p : ProcessorOf) : Type 0 where
  pub first : Process
  pub others : List Process
  pub waits : slice_index_or s.sleepers at [] ≡ first ∷ others
  pub woken_is : woken ≡ after_note first (downed at)
  pub goes : GoesTo script p (record s { sleepers = slice_set s.sleepers at others })

-- the count was 0, and one more sleeps
pub record SleepsLast (script : ScriptOf) (s : Lists) (at : ℕ) (who : Process) (p : ProcessorOf) : Type 0 where
  pub none : nat_lt 0 (slice_index s.counts at) ≡ false
  pub goes : GoesTo script p (record s { sleepers = slice_set s.sleepers at (slice_index_or s.sleepers at [] ++ who ∷ []) })

-- the count falls
pub record CountFalls (script : ScriptOf) (s : Lists) (at : ℕ) (p : ProcessorOf) : Type 0 where
  pub some : nat_lt 0 (slice_index s.counts at) ≡ true
  pub goes : GoesTo script p (record s { counts = slice_set s.counts at (slice_index s.counts at - 1) })

-- a birth is claimed, or there is none
pub record IsBorn (script : ScriptOf) (s : Lists) (p : ProcessorOf) : Type 0 where
  pub may : nat_lt s.births script.births ≡ true
  pub goes : GoesTo script p (record s { births = s.births + 1 })

pub record HasNoBirth (script : ScriptOf) (s : Lists) (p : ProcessorOf) : Type 0 where
  pub may_not : nat_lt s.births script.births ≡ false
  pub goes : GoesTo script p s

-- a slot is taken, or there is none
pub record TakesFreeSlot (script : ScriptOf) (s : Lists) (slot : ℕ) (p : ProcessorOf) : Type 0 where
  pub others : List ℕ
  pub free : s.free_slots ≡ slot ∷ others
  pub goes : GoesTo script p (record s { free_slots = others })

pub record HasNoSlot (script : ScriptOf) (s : Lists) (p : ProcessorOf) : Type 0 where
  pub none : s.free_slots ≡ []
  pub goes : GoesTo script p s

-- the processor is the only one, and the list scheduler comes to this state
pub record IsReached (script : ScriptOf) (p : ProcessorOf) (s : State) : Type 0 where
  pub alone : IsAlone script p
  pub count : ℕ
  pub reached : s ≡ steps count script (opening script)
