-- What is dealt to the processors when the objects are opened.
use Rattle.std.specs.Prelude.{◌≡◌, ℕ, zero, suc, ◌≤◌, List, [], ◌∷◌, ◌++◌, map, replicate}
use Rattle.std.specs.List.{All}
use Rattle.fak_model.specs.declared.credit.CreditMark.{CreditMark}
use Rattle.fak_model.specs.declared.queue.Mark.{Mark}
use Rattle.fak_model.specs.declared.room.RoomMark.{RoomMark}
use Rattle.fak_model.specs.Calls.{SeatInfo, seat_info}
use Rattle.fak_sem.specs.Semaphores.{SemId, SemInfo, SemSeatInfo, seats_of}
use Rattle.fak_files.specs.declared.phase.Hold.TheVariants.{Nothing}
use Rattle.fak_files.specs.Calls.{FileSeatInfo, file_seat}
use Rattle.fak_text.specs.Script.{ScriptOf}
use Rattle.fak_text.specs.Journal.{Process}
use Rattle.fak_run.specs.Files.{free_entry}
use Rattle.fak_processor.specs.Processors.{ObjectsOf, ProcessorOf, ids_of}

-- a row for each processor, and one more seat for each row
abbrev pub dealt_to : List (List (SemSeatInfo Process)) → List (SemSeatInfo Process) → List (List (SemSeatInfo Process))
dealt_to [] seats = []
dealt_to (row ∷ rows) [] = []
dealt_to (row ∷ rows) (seat ∷ seats) = (row ++ seat ∷ []) ∷ dealt_to rows seats

abbrev pub fresh_sem_at : ℕ → ℕ → SemId → SemSeatInfo Process
fresh_sem_at stint name object = record { object = object; name = name; stint = stint; credit_seen = []; queue_seen = [] }

-- processor by processor, a seat of each semaphore
abbrev pub fresh_rows : List SemId → ℕ → ℕ → ℕ → List (List (SemSeatInfo Process))
fresh_rows ids stint name zero = []
fresh_rows ids stint name (suc n) = map (fresh_sem_at stint name) ids ∷ fresh_rows ids stint (suc name) n

-- 1 to 8 processors
abbrev pub AreProcessors : ℕ → Type 0
AreProcessors n = (1 ≤ n) × (n ≤ 8)

-- a semaphore of this script, for this many processors
pub record IsSemaphoreFor (script : ScriptOf) (processors : ℕ) (s : SemInfo) : Type 0 where
  pub size : s.size ≡ script.slots
  pub seats : seats_of s.object ≡ processors
  pub waits : s.object.queue.seats ≡ processors

-- the semaphores of this script, the first of them
pub record AreSemaphoresFor (script : ScriptOf) (processors : ℕ) (starts : List ℕ) (semaphores : List SemInfo) : Type 0 where
  pub starts_are : map (λ s. s.object.start) semaphores ≡ starts
  pub each : All (IsSemaphoreFor script processors) semaphores

-- the seats of a new processor
abbrev pub fresh_processor : ObjectsOf → ℕ → ℕ → ProcessorOf
fresh_processor o stint name = record {
  ready = seat_info o.ready.object name stint [];
  free = seat_info o.free.object name stint [];
  births = seat_info o.births.object name stint [];
  busy = seat_info o.busy.object name stint [];
  semaphores = map (fresh_sem_at stint name) (ids_of o.semaphores);
  files = file_seat (seat_info o.files.object name stint []) Nothing;
  ended = [];
  halted = [];
  copy = replicate o.files.entries free_entry;
}

-- the seats of all objects, processor by processor, each with a copy of this many free entries
abbrev pub zipped : ℕ → List (SeatInfo (Mark Process)) → List (SeatInfo (Mark ℕ)) → List (SeatInfo RoomMark) → List (SeatInfo CreditMark) → List (List (SemSeatInfo Process)) → List FileSeatInfo → List ProcessorOf
zipped n (r ∷ rs) (f ∷ fs) (b ∷ bs) (c ∷ cs) (s ∷ ss) (x ∷ xs) = record { ready = r; free = f; births = b; busy = c; semaphores = s; files = x; ended = []; halted = []; copy = replicate n free_entry } ∷ zipped n rs fs bs cs ss xs
zipped n _ _ _ _ _ _ = []

-- the seats of new processors, from this name on
abbrev pub fresh_all : ObjectsOf → ℕ → ℕ → ℕ → List ProcessorOf
fresh_all o stint name zero = []
fresh_all o stint name (suc n) = fresh_processor o stint name ∷ fresh_all o stint (suc name) n

-- the objects have a seat for each processor
pub record AreSeated (processors : ℕ) (o : ObjectsOf) : Type 0 where
  pub ready : o.ready.object.seats ≡ processors
  pub free : o.free.object.seats ≡ processors
  pub births : o.births.object.seats ≡ processors
  pub busy : o.busy.object.seats ≡ processors
  pub credits : All (λ (s : SemInfo). s.object.credit.seats ≡ processors) o.semaphores
  pub waits : All (λ (s : SemInfo). s.object.queue.seats ≡ processors) o.semaphores
  pub files : o.files.object.seats ≡ processors
