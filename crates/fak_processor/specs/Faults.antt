-- The faults that a processor meets, and what is spent if it is worn.
use Rattle.std.specs.Prelude.{◌≡◌, ◌⊎◌, Bool}
use Rattle.std.specs.List.{Any}
use Rattle.fak_model.specs.Calls.{SeatInfo}
use Rattle.fak_model.specs.declared.queue.Mark.{Mark}
use Rattle.fak_count.specs.Credits.{calls_made}
use Rattle.fak_count.specs.Rooms.{granted_claims}
use Rattle.fak_queue.specs.Queues.{drawn_by}
use Rattle.fak_sem.specs.Semaphores.{SemSeatInfo, credit_part}
use Rattle.fak_files.specs.Calls.{FileSeatInfo, holds_had}
use Rattle.fak_run.specs.declared.fault.Fault.{Fault}
use Rattle.fak_run.specs.declared.fault.Fault.TheVariants.{Memory, Worn}
use Rattle.fak_run.specs.Gates.{IsOfGate}
use Rattle.fak_processor.specs.Processors.{ProcessorOf}

-- a step had no memory, or the stint of a seat was over
abbrev pub IsOfStep : Fault → Type 0
IsOfStep fault = (fault ≡ Memory) ⊎ (fault ≡ Worn)

-- a seat of a queue has drawn all tickets of its stint
abbrev pub IsSpent : {T : Type 0} → SeatInfo (Mark T) → Type 0
IsSpent seat = drawn_by seat ≡ seat.stint

-- a seat of a semaphore has made all downs and ups of its stint
abbrev pub IsSpentSem : {T : Type 0} → SemSeatInfo T → Type 0
IsSpentSem seat = calls_made (credit_part seat) ≡ seat.stint

-- a seat of the file table has had all holds of its stint
abbrev pub IsSpentFile : FileSeatInfo → Type 0
IsSpentFile files = holds_had files.seat ≡ files.seat.stint

-- one of the processor's seats has used up its stint: only then a call on a shared object is worn
pub data HasSpentSeat (p : ProcessorOf) : Type 0 where
  at_ready : IsSpent p.ready → HasSpentSeat p
  at_free : IsSpent p.free → HasSpentSeat p
  at_semaphores : Any IsSpentSem p.semaphores → HasSpentSeat p
  at_births : granted_claims p.births ≡ p.births.stint → HasSpentSeat p
  at_busy : calls_made p.busy ≡ p.busy.stint → HasSpentSeat p
  at_files : IsSpentFile p.files → HasSpentSeat p

-- what a processor meets at a gate that may refuse or not
abbrev pub IsOfLoop : Bool → Fault → Type 0
IsOfLoop refuses fault = IsOfStep fault ⊎ IsOfGate refuses fault
