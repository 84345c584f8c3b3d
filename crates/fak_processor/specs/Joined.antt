-- The seats that were joined, and how one more processor's seats are.
use Rattle.std.specs.Prelude.{◌≡◌, ℕ, List, [], ◌∷◌, map, slice_index_or}
use Rattle.std.specs.List.{All}
use Rattle.fak_model.specs.declared.credit.CreditMark.{CreditMark}
use Rattle.fak_model.specs.declared.file.FileMark.{FileMark}
use Rattle.fak_model.specs.declared.queue.Mark.{Mark}
use Rattle.fak_model.specs.declared.room.RoomMark.{RoomMark}
use Rattle.fak_model.specs.Calls.{ObjectId, TallyInfo, IsJoined, tally_of}
use Rattle.fak_model.specs.Credit.{credit_rules}
use Rattle.fak_model.specs.File.{file_rules}
use Rattle.fak_model.specs.Queue.{queue_rules}
use Rattle.fak_model.specs.Room.{room_rules}
use Rattle.fak_sem.specs.Semaphores.{SemId, SemInfo, SemSeatInfo, SemTallyInfo, JoinsSeat, sem_tally_of}
use Rattle.fak_text.specs.Journal.{Process}
use Rattle.fak_processor.specs.Holding.{JoinedTo, Tallies}
use Rattle.fak_processor.specs.Processors.{ObjectsOf, ProcessorOf, ids_of}

-- the tallies of all objects
pub record TalliesOf : Type 0 where
  pub ready : TallyInfo (Mark Process)
  pub free : TallyInfo (Mark ℕ)
  pub births : TallyInfo RoomMark
  pub busy : TallyInfo CreditMark
  pub semaphores : List (SemTallyInfo Process)
  pub files : TallyInfo FileMark

-- a seat and a tally for places after the last
abbrev pub no_table : ObjectId
no_table = record { table = record { words = 0; slots = 0; views_name = 0; atom = 0; block = 0; offset = 0; slot_names = [] }; seats = 0 }

abbrev pub no_sem : SemId
no_sem = record { credit = no_table; queue = no_table; start = 0 }

abbrev pub no_seat : SemSeatInfo Process
no_seat = record { object = no_sem; name = 0; stint = 0; credit_seen = []; queue_seen = [] }

abbrev pub no_tally : SemTallyInfo Process
no_tally = sem_tally_of no_seat

-- the tallies with those of the semaphores by number
abbrev pub tallies_of : TalliesOf → Tallies
tallies_of t = record { ready = t.ready; free = t.free; births = t.births; busy = t.busy; sems = λ s. slice_index_or t.semaphores s no_tally }

-- which semaphores
abbrev pub ids_of_tallies : List (SemTallyInfo Process) → List SemId
ids_of_tallies tallies = map (λ t. t.object) tallies

-- the tallies belong to these objects
pub record AreTalliesOf (o : ObjectsOf) (t : TalliesOf) : Type 0 where
  pub ready : t.ready.object ≡ o.ready.object
  pub free : t.free.object ≡ o.free.object
  pub births : t.births.object ≡ o.births.object
  pub busy : t.busy.object ≡ o.busy.object
  pub semaphores : ids_of_tallies t.semaphores ≡ ids_of o.semaphores
  pub files : t.files.object ≡ o.files.object

-- a seat of each semaphore is joined, in order
abbrev pub JoinEach : List SemInfo → List (SemTallyInfo Process) → List (SemSeatInfo Process) → List (SemTallyInfo Process) → Type 0
JoinEach [] [] [] [] = Unit {0}
JoinEach (o ∷ os) (t ∷ ts) (s ∷ ss) (b ∷ bs) = JoinsSeat o.size t s b × (b.object ≡ o.object) × JoinEach os ts ss bs
JoinEach _ _ _ _ = ⊥

-- a processor's seats are joined
pub record JoinAll (o : ObjectsOf) (t : TalliesOf) (p : ProcessorOf) (both : TalliesOf) : Type 0 where
  pub ready : IsJoined (queue_rules o.ready.size) t.ready p.ready both.ready
  pub free : IsJoined (queue_rules o.free.size) t.free p.free both.free
  pub births : IsJoined (room_rules o.births.bound) t.births p.births both.births
  pub busy : IsJoined credit_rules t.busy p.busy both.busy
  pub semaphores : JoinEach o.semaphores t.semaphores p.semaphores both.semaphores
  pub files : IsJoined (file_rules o.files.object.seats) t.files p.files.seat both.files

-- the tallies of one processor's seats
abbrev pub first_tallies : ProcessorOf → TalliesOf
first_tallies p = record {
  ready = tally_of p.ready;
  free = tally_of p.free;
  births = tally_of p.births;
  busy = tally_of p.busy;
  semaphores = map sem_tally_of p.semaphores;
  files = tally_of p.files.seat;
}

-- each tally has the seats of the first k processors
pub record HaveNames (k : ℕ) (t : TalliesOf) : Type 0 where
  pub ready : JoinedTo k t.ready.names
  pub free : JoinedTo k t.free.names
  pub births : JoinedTo k t.births.names
  pub busy : JoinedTo k t.busy.names
  pub semaphores : All (λ (s : SemTallyInfo Process). JoinedTo k s.names) t.semaphores
  pub files : JoinedTo k t.files.names
