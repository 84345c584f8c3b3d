-- What seats and tallies know of the ledgers of those who hold them.
use Rattle.std.specs.Prelude.{◌≡◌, ℕ, ◌<◌, false, List, [], map, pos, length}
use Rattle.std.specs.List.{sum_by}
use Rattle.fak_model.specs.declared.queue.Kind.{Kind}
use Rattle.fak_model.specs.declared.queue.Mark.{Mark}
use Rattle.fak_model.specs.declared.room.RoomMark.{RoomMark}
use Rattle.fak_model.specs.declared.credit.CreditMark.{CreditMark}
use Rattle.fak_model.specs.Histories.{Rules, IsHistory, AreNamed}
use Rattle.fak_model.specs.Seats.{In, mine, is_in}
use Rattle.fak_model.specs.Calls.{SeatInfo, TallyInfo, mine_of, IsJoined}
use Rattle.fak_model.specs.Queue.{queue_rules}
use Rattle.fak_model.specs.Room.{room_rules}
use Rattle.fak_model.specs.Room as room
use Rattle.fak_model.specs.Credit.{credit_rules, value}
use Rattle.fak_model.specs.Credit as credit
use Rattle.fak_sem.specs.Semaphores.{SemSeatInfo, SemTallyInfo, credit_tally, queue_tally, JoinsSeat}
use Rattle.fak_text.specs.Script.{ScriptOf}
use Rattle.fak_text.specs.Journal.{Process}
use Rattle.fak_run.specs.ListScheduler.{numbers_from}
use Rattle.fak_run.specs.Ledger.{Ledger, Balanced, named}
use Rattle.fak_run.specs.Whole.{begun_names}

-- the seat's own marks are of these kinds, and what it has seen is lawful
pub record Owns {M W C K : Type 0} (rules : Rules M W C) (kind_of : M → K) (s : SeatInfo M) (kinds : List K) : Type 0 where
  pub kinds_are : map kind_of (mine_of rules.seat_of s) ≡ kinds
  pub lawful : IsHistory rules s.seen
  pub named : AreNamed rules s.object.seats s.seen

-- the marks of the names of a tally weigh as these kinds
pub record Weighs {M W C K : Type 0} (rules : Rules M W C) (kind_of : M → K) (t : TallyInfo M) (kinds : List K) : Type 0 where
  pub weigh : (w : K → ℕ) → sum_by (λ (m : M). w (kind_of m)) (mine rules.seat_of t.names t.seen) ≡ sum_by w kinds
  pub lawful : IsHistory rules t.seen
  pub named : AreNamed rules t.object.seats t.seen

abbrev pub queue_kind : {A : Type 0} → Mark A → Kind A
queue_kind m = m.kind

-- the seats of one processor, and the tallies of all that were joined
pub record Bundle : Type 0 where
  pub ready : SeatInfo (Mark Process)
  pub free : SeatInfo (Mark ℕ)
  pub births : SeatInfo RoomMark
  pub busy : SeatInfo CreditMark
  pub sems : ℕ → SemSeatInfo Process

pub record Tallies : Type 0 where
  pub ready : TallyInfo (Mark Process)
  pub free : TallyInfo (Mark ℕ)
  pub births : TallyInfo RoomMark
  pub busy : TallyInfo CreditMark
  pub sems : ℕ → SemTallyInfo Process

-- what they have together
pub record Have (script : ScriptOf) (t : Tallies) (l : Ledger) : Type 0 where
  pub balanced : Balanced script (length script.semaphores) [] [] l
  pub ready : Weighs (queue_rules script.slots) queue_kind t.ready l.ready
  pub free : Weighs (queue_rules script.slots) queue_kind t.free l.free
  pub births : Weighs (room_rules script.births) room.kind_of t.births l.births
  pub busy : Weighs credit_rules credit.kind_of t.busy l.busy
  pub credits : (s : ℕ) → s < length script.semaphores → Weighs credit_rules credit.kind_of (credit_tally (t.sems s)) (l.credits s)
  pub waits : (s : ℕ) → s < length script.semaphores → Weighs (queue_rules script.slots) queue_kind (queue_tally (t.sems s)) (l.waits s)
  pub idle : value (length script.start) t.busy.seen ≡ pos 0
  pub begun : map named l.begun ≡ begun_names 0 script.start
  pub first : l.first ≡ numbers_from 0 script.slots

-- one more processor's seats are joined, none of which is in yet
pub record Joins (script : ScriptOf) (t : Tallies) (b : Bundle) (both : Tallies) : Type 0 where
  pub ready : IsJoined (queue_rules script.slots) t.ready b.ready both.ready
  pub free : IsJoined (queue_rules script.slots) t.free b.free both.free
  pub births : IsJoined (room_rules script.births) t.births b.births both.births
  pub busy : IsJoined credit_rules t.busy b.busy both.busy
  pub sems : (s : ℕ) → s < length script.semaphores → JoinsSeat script.slots (t.sems s) (b.sems s) (both.sems s)
  pub new_ready : is_in b.ready.name t.ready.names ≡ false
  pub new_free : is_in b.free.name t.free.names ≡ false
  pub new_births : is_in b.births.name t.births.names ≡ false
  pub new_busy : is_in b.busy.name t.busy.names ≡ false
  pub new_sems : (s : ℕ) → s < length script.semaphores → is_in (b.sems s).name (t.sems s).names ≡ false

-- the names are those of the first k seats
pub record JoinedTo (k : ℕ) (names : List ℕ) : Type 0 where
  pub has : (n : ℕ) → n < k → In n names
  pub below : (n : ℕ) → In n names → n < k
