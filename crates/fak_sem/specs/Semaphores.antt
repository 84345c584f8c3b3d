-- What callers see of a semaphore and of its seats, and what calls do to them. Histories have the oldest mark first.
use Rattle.std.specs.Prelude.{ℕ, zero, suc, ◌+◌, ◌<◌, ◌≡◌, ℤ, pos, ◌≤ℤ◌, ◌<ℤ◌, List, [], ◌∷◌, Option, Some, None, MatchOption}
use Rattle.std.specs.List.{All}
use Rattle.fak_model.specs.declared.credit.CreditKind.TheVariants.{Debit, Credit}
use Rattle.fak_model.specs.declared.credit.CreditMark.{CreditMark}
use Rattle.fak_model.specs.declared.queue.Mark.{Mark}
use Rattle.fak_model.specs.Credit.{credit_rules}
use Rattle.fak_model.specs.Queue.{queue_rules}
use Rattle.fak_model.specs.Seats.{In}
use Rattle.fak_model.specs.Calls.{ObjectId, SeatInfo, seat_info, TallyInfo, tally_info, IsJoined}
use Rattle.fak_count.specs.Credits.{CreditInfo, credit_info, calls_made, MakesCall}
use Rattle.fak_queue.specs.declared.state.SeatState.TheVariants.{Idle}
use Rattle.fak_queue.specs.Queues.{QueueInfo, size_of, state_of}
use Rattle.fak_queue.specs.Retries.{InsertsAtLast, DeletesAtLast}
use Rattle.fak_sem.specs.Grants.{IsMatched, downs_passed_by, downs_parked_by, ups_waking_by}

-- ---- semaphores, seats and tallies

-- which semaphore it is: its credit, its wait queue, and its start
pub record SemId : Type 0 where
  pub credit : ObjectId
  pub queue : ObjectId
  pub start : ℕ

-- the number of its seats
abbrev pub seats_of : SemId → ℕ
seats_of o = o.credit.seats

-- a semaphore: which one it is, and the size of its wait queue
pub record SemInfo : Type 0 where
  pub object : SemId
  pub size : ℕ
  pub cells : size ≡ size_of object.queue

-- a seat: its semaphore, its name there, its stint, and the histories of the credit and of the wait queue that it has seen
pub record SemSeatInfo (T : Type 0) : Type 0 where
  pub object : SemId
  pub name : ℕ
  pub stint : ℕ
  pub credit_seen : List CreditMark
  pub queue_seen : List (Mark T)

-- joined seats: their semaphore, their names, and the longest histories that one of them has seen
pub record SemTallyInfo (T : Type 0) : Type 0 where
  pub object : SemId
  pub names : List ℕ
  pub credit_seen : List CreditMark
  pub queue_seen : List (Mark T)

-- the parts of a semaphore, of a seat and of a tally
abbrev pub credit_of : SemInfo → CreditInfo
credit_of s = credit_info s.object.credit s.object.start

abbrev pub credit_part : {T : Type 0} → SemSeatInfo T → SeatInfo CreditMark
credit_part s = seat_info s.object.credit s.name s.stint s.credit_seen

abbrev pub queue_part : {T : Type 0} → SemSeatInfo T → SeatInfo (Mark T)
queue_part s = seat_info s.object.queue s.name s.stint s.queue_seen

abbrev pub credit_tally : {T : Type 0} → SemTallyInfo T → TallyInfo CreditMark
credit_tally t = tally_info t.object.credit t.names t.credit_seen

abbrev pub queue_tally : {T : Type 0} → SemTallyInfo T → TallyInfo (Mark T)
queue_tally t = tally_info t.object.queue t.names t.queue_seen

-- the seat belongs to this semaphore, and is between two calls, as it always is
abbrev pub IsIdleSemSeat : {T : Type 0} → SemId → SemSeatInfo T → Type 0
IsIdleSemSeat object s = s.object ≡ object

-- the number of the seat's downs that passed, of its downs that parked, and of its ups that woke
abbrev pub passed_by : {T : Type 0} → SemSeatInfo T → ℕ
passed_by s = downs_passed_by s.name s.object.start s.credit_seen

abbrev pub parked_by : {T : Type 0} → SemSeatInfo T → ℕ
parked_by s = downs_parked_by s.name s.object.start s.credit_seen

abbrev pub woken_by : {T : Type 0} → SemSeatInfo T → ℕ
woken_by s = ups_waking_by s.name s.object.start s.credit_seen

-- ---- what the types guarantee

abbrev pub sem_id : CreditInfo → QueueInfo → SemId
sem_id credit queue = record { credit = credit.object; queue = queue.object; start = credit.start }

abbrev pub sem_info : CreditInfo → QueueInfo → SemInfo
sem_info credit queue = record { object = sem_id credit queue; size = queue.size; cells = queue.cells }

-- what these seats of the credit and of the wait queue show together, in a semaphore with this start
abbrev pub sem_seat : {T : Type 0} → ℕ → SeatInfo CreditMark → SeatInfo (Mark T) → SemSeatInfo T
sem_seat start credit queue = record {
  object = record { credit = credit.object; queue = queue.object; start = start };
  name = credit.name;
  stint = credit.stint;
  credit_seen = credit.seen;
  queue_seen = queue.seen;
}

-- both parts have one name and one stint, the wait queue's part is idle, and its items are those of the parked downs
pub record IsSemSeat {T : Type 0} (start : ℕ) (credit : SeatInfo CreditMark) (queue : SeatInfo (Mark T)) : Type 0 where
  pub seats : queue.object.seats ≡ credit.object.seats
  pub name : queue.name ≡ credit.name
  pub stint : queue.stint ≡ credit.stint
  pub idle : state_of queue ≡ Idle
  pub credit_named : All (λ (m : CreditMark). m.seat < credit.object.seats) credit.seen
  pub queue_named : All (λ (m : Mark T). m.seat < queue.object.seats) queue.seen
  pub matched : IsMatched start credit.name credit.seen queue.seen

abbrev pub sem_tally : {T : Type 0} → ℕ → TallyInfo CreditMark → TallyInfo (Mark T) → SemTallyInfo T
sem_tally start credit queue = record {
  object = record { credit = credit.object; queue = queue.object; start = start };
  names = credit.names;
  credit_seen = credit.seen;
  queue_seen = queue.seen;
}

pub record IsSemTally {T : Type 0} (start : ℕ) (credit : TallyInfo CreditMark) (queue : TallyInfo (Mark T)) : Type 0 where
  pub seats : queue.object.seats ≡ credit.object.seats
  pub names : queue.names ≡ credit.names
  pub credit_named : All (λ (m : CreditMark). m.seat < credit.object.seats) credit.seen
  pub queue_named : All (λ (m : Mark T). m.seat < queue.object.seats) queue.seen
  pub matched : (name : ℕ) → In name credit.names → IsMatched start name credit.seen queue.seen

-- ---- what calls leave

-- this many seats, named from `name` on, as they are opened
abbrev pub fresh_sem_seats : {T : Type 0} → SemId → ℕ → ℕ → ℕ → List (SemSeatInfo T)
fresh_sem_seats object stint name zero = []
fresh_sem_seats object stint name (suc n) = record { object = object; name = name; stint = stint; credit_seen = []; queue_seen = [] } ∷ fresh_sem_seats object stint (suc name) n

-- a down that found at least 1 passes
pub record IsPassed {T : Type 0} (found : ℤ) (old new : SemSeatInfo T) : Type 0 where
  pub enough : pos 1 ≤ℤ found
  pub same_queue : queue_part new ≡ queue_part old

-- a down that found less than 1 parks: its item goes into the wait queue
pub record IsParked {T : Type 0} (size : ℕ) (who : T) (found : ℤ) (old new : SemSeatInfo T) : Type 0 where
  pub short : found <ℤ pos 1
  pub inserts : InsertsAtLast size who (queue_part old) (queue_part new)

-- a down within the stint is one debit; its item passes or is parked
pub record Downs {T : Type 0} (sem : SemInfo) (who : T) (old new : SemSeatInfo T) (answer : Option T) : Type 0 where
  pub found : ℤ
  pub debits : MakesCall Debit (credit_of sem) (credit_part old) (credit_part new) found
  pub passes : MatchOption answer (IsParked sem.size who found old new) (λ passed. (passed ≡ who) × IsPassed found old new)

-- an up that found at least 0 wakes nobody
pub record WakesNobody {T : Type 0} (found : ℤ) (old new : SemSeatInfo T) : Type 0 where
  pub enough : pos 0 ≤ℤ found
  pub same_queue : queue_part new ≡ queue_part old

-- an up that found less than 0 wakes the item that it takes out of the wait queue
pub record Wakes {T : Type 0} (size : ℕ) (found : ℤ) (old new : SemSeatInfo T) (woken : T) : Type 0 where
  pub owes : found <ℤ pos 0
  pub deletes : DeletesAtLast size woken (queue_part old) (queue_part new)

-- an up within the stint is one credit; it wakes nobody or an item
pub record Ups {T : Type 0} (sem : SemInfo) (old new : SemSeatInfo T) (answer : Option T) : Type 0 where
  pub found : ℤ
  pub credits : MakesCall Credit (credit_of sem) (credit_part old) (credit_part new) found
  pub wakes : MatchOption answer (WakesNobody found old new) (Wakes sem.size found old new)

-- 1 for a returned item, and 0 for none
abbrev pub one_if_some : {T : Type 0} → Option T → ℕ
one_if_some (Some x) = 1
one_if_some None = 0

abbrev pub one_if_none : {T : Type 0} → Option T → ℕ
one_if_none (Some x) = 0
one_if_none None = 1

-- one more down of the seat has passed if an item is returned; otherwise one more has parked
pub record CountsDown {T : Type 0} (old new : SemSeatInfo T) (answer : Option T) : Type 0 where
  pub passed : passed_by new ≡ passed_by old + one_if_some answer
  pub parked : parked_by new ≡ parked_by old + one_if_none answer
  pub woken : woken_by new ≡ woken_by old

-- one more up of the seat has woken an item, if one is returned
pub record CountsUp {T : Type 0} (old new : SemSeatInfo T) (answer : Option T) : Type 0 where
  pub passed : passed_by new ≡ passed_by old
  pub parked : parked_by new ≡ parked_by old
  pub woken : woken_by new ≡ woken_by old + one_if_some answer

-- a call beyond the stint of downs and ups together changes nothing
pub record IsWornSeat {T : Type 0} (old new : SemSeatInfo T) : Type 0 where
  pub spent : calls_made (credit_part old) ≡ old.stint
  pub unchanged : new ≡ old

-- the tally of one seat
abbrev pub sem_tally_of : {T : Type 0} → SemSeatInfo T → SemTallyInfo T
sem_tally_of s = record { object = s.object; names = s.name ∷ []; credit_seen = s.credit_seen; queue_seen = s.queue_seen }

-- a join of both histories
pub record JoinsSeat {T : Type 0} (size : ℕ) (tally : SemTallyInfo T) (seat : SemSeatInfo T) (both : SemTallyInfo T) : Type 0 where
  pub credit : IsJoined credit_rules (credit_tally tally) (credit_part seat) (credit_tally both)
  pub queue : IsJoined (queue_rules size) (queue_tally tally) (queue_part seat) (queue_tally both)
