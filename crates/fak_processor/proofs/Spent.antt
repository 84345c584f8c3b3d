-- A processor with a seat that has used up its stint.
use Rattle.std.specs.List.{Any}
use Rattle.std.proofs.lemmas.List.Quantifiers.{any-set}
use Rattle.fak_files.specs.Calls.{IsWorn}
use Rattle.fak_sem.specs.Semaphores.{IsWornSeat}
use Rattle.fak_processor.proofs.Common.{ℕ, ◌<◌, length, slice_set, sym, subst, SemSeatInfo, FileSeatInfo, ScriptOf, Process, ObjectsOf, ProcessorOf, AreFor, AreOf}
use Rattle.fak_processor.specs.Faults.{IsSpentSem, IsSpentFile}
use Rattle.fak_processor.proofs.Gaining.{seat_there}

-- a worn seat is spent, and stays as it was
pub worn_sem : {was is : SemSeatInfo Process} → IsWornSeat was is → IsSpentSem is
worn_sem w = subst IsSpentSem (sym w.unchanged) w.spent

pub worn_file : {was is : FileSeatInfo} → IsWorn was is → IsSpentFile is
worn_file w = subst IsSpentFile (sym w.unchanged) w.spent

module _ {script : ScriptOf} {o : ObjectsOf} (p : ProcessorOf) (made : AreFor script o) (fits : AreOf o p) (at : ℕ) (low : at < length script.semaphores) where
  -- the seat of the semaphore at this place is spent
  pub spent_there : {was : SemSeatInfo Process} (is : SemSeatInfo Process) → IsWornSeat was is → Any IsSpentSem (slice_set p.semaphores at is)
  spent_there is w = any-set IsSpentSem p.semaphores at is (seat_there p made fits low) (worn_sem w)
