-- Downs and ups by steps: what callers see of a seat between the steps, and what the steps do together.
use Rattle.std.specs.Prelude.{◌≡◌, ℕ, ◌+◌, ◌<◌, ◌≤◌, ℤ, pos, ◌<ℤ◌, Bool, true, false, List, [], ◌∷◌, ◌++◌, Option, Some, None}
use Rattle.std.specs.List.{All, flat_map}
use Rattle.fak_model.specs.declared.credit.CreditKind.TheVariants.{Debit, Credit}
use Rattle.fak_model.specs.declared.credit.CreditMark.{CreditMark}
use Rattle.fak_model.specs.declared.queue.Kind.{Kind}
use Rattle.fak_model.specs.declared.queue.Kind.TheVariants as made
use Rattle.fak_model.specs.declared.queue.Mark.{Mark}
use Rattle.fak_model.specs.Histories.{AreNamed}
use Rattle.fak_model.specs.Queue.{IsQueueHistory, queue_rules, count, puts, gots, items_put, item_at}
use Rattle.fak_model.specs.Seats.{Begins, marks_of}
use Rattle.fak_model.specs.Calls.{SeatInfo, mine_of}
use Rattle.fak_count.specs.Credits.{MakesCall, calls_made}
use Rattle.fak_queue.specs.declared.state.SeatState.TheVariants as state
use Rattle.fak_queue.specs.Queues.{Makes, made_by, seat_of, state_of, Fills, WaitsToFill, Takes, WaitsToTake}
use Rattle.fak_queue.specs.Retries.{RefusedInsertion, RefusedDeletion, kinds_not_in, kinds_not_out}
use Rattle.fak_sem.specs.declared.standing.Standing.{Standing}
use Rattle.fak_sem.specs.declared.standing.Standing.TheVariants.{Idle, Parking, Inserting, Waking, Deleting}
use Rattle.fak_sem.specs.Grants.{downs_parked_by, ups_waking_by}
use Rattle.fak_sem.specs.Semaphores.{SemInfo, SemSeatInfo, sem_seat, credit_of, credit_part, queue_part, passed_by, parked_by, woken_by, Downs, Ups}
use Rattle.fak_sem.specs.Standings.{IsParking, IsWaking, StandsWith, unput, ungot}

-- ---- seats

-- a seat whose calls go by steps: what a seat of the semaphore shows, and its state
pub record StepSeatInfo (T : Type 0) : Type 0 where
  pub seat : SemSeatInfo T
  pub standing : Standing T

abbrev pub step_seat : {T : Type 0} → ℕ → SeatInfo CreditMark → SeatInfo (Mark T) → Standing T → StepSeatInfo T
step_seat start credit queue standing = record { seat = sem_seat start credit queue; standing = standing }

-- as `IsSemSeat`, except that a call may be open
pub record IsStepSeat {T : Type 0} (start : ℕ) (credit : SeatInfo CreditMark) (queue : SeatInfo (Mark T)) (standing : Standing T) : Type 0 where
  pub seats : queue.object.seats ≡ credit.object.seats
  pub name : queue.name ≡ credit.name
  pub stint : queue.stint ≡ credit.stint
  pub credit_named : All (λ (m : CreditMark). m.seat < credit.object.seats) credit.seen
  pub queue_named : All (λ (m : Mark T). m.seat < queue.object.seats) queue.seen
  pub within : calls_made credit ≤ credit.stint
  pub stands : StandsWith standing (state_of queue)
  pub parked : count puts (marks_of seat_of credit.name queue.seen) + unput standing ≡ downs_parked_by credit.name start credit.seen
  pub woken : count gots (marks_of seat_of credit.name queue.seen) + ungot standing ≡ ups_waking_by credit.name start credit.seen

-- ---- one claim in the wait queue

-- the item came back, after a refusal for another reason than the stint; or its ticket was drawn
abbrev pub ClaimsRoom : {T : Type 0} → ℕ → T → SeatInfo (Mark T) → SeatInfo (Mark T) → Standing T → Type 0
ClaimsRoom size item old new (Parking x) = (x ≡ item) × (state_of new ≡ state.Idle) × ((r : RefusedInsertion) × Makes size (kinds_not_in r) old new)
ClaimsRoom size item old new Inserting = ((k : ℕ) × (state_of new ≡ state.Inserting k)) × Makes size (made.ClaimIn ∷ made.Put item ∷ []) old new
ClaimsRoom size item old new _ = ⊥

-- a ticket was drawn whose item is this one
pub record DrawsItem {T : Type 0} (size : ℕ) (old new : SeatInfo (Mark T)) : Type 0 where
  pub ticket : ℕ
  pub item : T
  pub state : state_of new ≡ state.Deleting ticket
  pub put : item_at (items_put new.seen) ticket ≡ Some item
  pub makes : Makes size (made.ClaimOut ∷ made.Got item ∷ []) old new

abbrev pub ClaimsItem : {T : Type 0} → ℕ → SeatInfo (Mark T) → SeatInfo (Mark T) → Standing T → Type 0
ClaimsItem size old new Waking = (state_of new ≡ state.Idle) × ((r : RefusedDeletion) × Makes size (kinds_not_out r) old new)
ClaimsItem size old new Deleting = DrawsItem size old new
ClaimsItem size old new _ = ⊥

-- ---- what one step does in the wait queue

-- a step of a down that parks, by the states before and after it: it claimed room for its item; or it filled the cell
-- of its ticket, and the down is done; or it loaded the turn of that cell, whose item of the round before is not yet taken
abbrev pub StepsToParkFrom : {T : Type 0} → ℕ → Standing T → Standing T → Bool → SeatInfo (Mark T) → SeatInfo (Mark T) → Type 0
StepsToParkFrom size (Parking item) now false old new = ClaimsRoom size item old new now
StepsToParkFrom size Inserting now true old new = (k : ℕ) × (state_of old ≡ state.Inserting k) × Fills size k old new
StepsToParkFrom size Inserting now false old new = (k : ℕ) × (state_of old ≡ state.Inserting k) × (now ≡ Inserting) × WaitsToFill size k old new
StepsToParkFrom size _ now _ old new = ⊥

-- a step of an up that owes a wake, likewise: it claimed an item; or it took the item of its ticket, and the up is
-- done; or it loaded the turn of that cell, which is not yet filled
abbrev pub StepsToWakeFrom : {T : Type 0} → ℕ → Standing T → Standing T → Option T → SeatInfo (Mark T) → SeatInfo (Mark T) → Type 0
StepsToWakeFrom size Waking now None old new = ClaimsItem size old new now
StepsToWakeFrom size Deleting now (Some item) old new = (k : ℕ) × (state_of old ≡ state.Deleting k) × Takes size k item old new
StepsToWakeFrom size Deleting now None old new = (k : ℕ) × (state_of old ≡ state.Deleting k) × (now ≡ Deleting) × WaitsToTake size k old new
StepsToWakeFrom size _ now _ old new = ⊥

-- ---- what steps have done together

-- as `Makes`, except that what was seen may end with marks of others: the seat has looked since
pub record HasMade {T : Type 0} (size : ℕ) (kinds : List (Kind T)) (old now : SeatInfo (Mark T)) : Type 0 where
  pub same_seat : now ≡ record old { seen = now.seen }
  pub begins : Begins old.seen now.seen
  pub mine : mine_of seat_of now ≡ mine_of seat_of old ++ made_by old.name kinds
  pub lawful : IsQueueHistory size now.seen
  pub named : AreNamed (queue_rules size) now.object.seats now.seen

-- marks of these kinds, after any number of refused claims
pub record HasMadeAtLast {T R : Type 0} (kinds_of : R → List (Kind T)) (size : ℕ) (kinds : List (Kind T)) (old now : SeatInfo (Mark T)) : Type 0 where
  pub refused : List R
  pub made : HasMade size (flat_map kinds_of refused ++ kinds) old now

-- an insertion as far as it has come
abbrev pub ParkedSoFar : {T : Type 0} → ℕ → T → Standing T → SeatInfo (Mark T) → SeatInfo (Mark T) → Type 0
ParkedSoFar size who (Parking x) old now = (x ≡ who) × HasMadeAtLast kinds_not_in size [] old now
ParkedSoFar size who Inserting old now = HasMadeAtLast kinds_not_in size (made.ClaimIn ∷ made.Put who ∷ []) old now
ParkedSoFar size who _ old now = ⊥

-- a deletion whose ticket has this item
pub record HasDrawn {T : Type 0} (size : ℕ) (old now : SeatInfo (Mark T)) : Type 0 where
  pub ticket : ℕ
  pub item : T
  pub state : state_of now ≡ state.Deleting ticket
  pub put : item_at (items_put now.seen) ticket ≡ Some item
  pub made : HasMadeAtLast kinds_not_out size (made.ClaimOut ∷ made.Got item ∷ []) old now

abbrev pub WokenSoFar : {T : Type 0} → ℕ → Standing T → SeatInfo (Mark T) → SeatInfo (Mark T) → Type 0
WokenSoFar size Waking old now = HasMadeAtLast kinds_not_out size [] old now
WokenSoFar size Deleting old now = HasDrawn size old now
WokenSoFar size _ old now = ⊥

-- since this state of the seat between two calls, it began a down of `who`: one debit that found less than 1, and the
-- insertion as far as it has come
pub record ParksSince {T : Type 0} (sem : SemInfo) (who : T) (began : SemSeatInfo T) (now : StepSeatInfo T) : Type 0 where
  pub found : ℤ
  pub debits : MakesCall Debit (credit_of sem) (credit_part began) (credit_part now.seat) found
  pub short : found <ℤ pos 1
  pub so_far : ParkedSoFar sem.size who now.standing (queue_part began) (queue_part now.seat)

-- since this state of the seat between two calls, it began an up: one credit that found less than 0, and the deletion
-- as far as it has come
pub record WakesSince {T : Type 0} (sem : SemInfo) (began : SemSeatInfo T) (now : StepSeatInfo T) : Type 0 where
  pub found : ℤ
  pub credits : MakesCall Credit (credit_of sem) (credit_part began) (credit_part now.seat) found
  pub owes : found <ℤ pos 0
  pub so_far : WokenSoFar sem.size now.standing (queue_part began) (queue_part now.seat)

-- ---- what the first steps do

-- a down has passed and is done; or it parks
abbrev pub BeginsDown : {T : Type 0} → SemInfo → T → StepSeatInfo T → StepSeatInfo T → Option T → Type 0
BeginsDown sem who old new None = ParksSince sem who old.seat new
BeginsDown sem who old new (Some passed) = (new.standing ≡ Idle) × Downs sem who old.seat new.seat (Some passed)

-- an up woke nobody and is done; or it owes a wake
abbrev pub BeginsUp : {T : Type 0} → SemInfo → StepSeatInfo T → StepSeatInfo T → Bool → Type 0
BeginsUp sem old new false = (new.standing ≡ Idle) × Ups sem old.seat new.seat None
BeginsUp sem old new true = WakesSince sem old.seat new

-- from its credit on, an up that owes a wake counts as one that woke
abbrev pub one_if : Bool → ℕ
one_if true = 1
one_if false = 0

pub record CountsAsBegun {T : Type 0} (old new : SemSeatInfo T) (owes : Bool) : Type 0 where
  pub passed : passed_by new ≡ passed_by old
  pub parked : parked_by new ≡ parked_by old
  pub woken : woken_by new ≡ woken_by old + one_if owes

-- the item is parked and the down is done; or the down goes on
abbrev pub ParksOn : {T : Type 0} → SemInfo → T → SemSeatInfo T → StepSeatInfo T → Bool → Type 0
ParksOn sem who began new true = Downs sem who began new.seat None
ParksOn sem who began new false = ParksSince sem who began new

abbrev pub StandsAfter : {T : Type 0} → Standing T → Bool → Type 0
StandsAfter standing true = standing ≡ Idle
StandsAfter standing false = IsParking standing

abbrev pub StandsOwing : {T : Type 0} → Standing T → Bool → Type 0
StandsOwing standing true = IsWaking standing
StandsOwing standing false = standing ≡ Idle

-- if a first step leaves a call open, it claimed room for the item, or an item, once
abbrev pub ClaimsRoomOnce : {T : Type 0} → SemInfo → T → StepSeatInfo T → StepSeatInfo T → Option T → Type 0
ClaimsRoomOnce sem who old new None = ClaimsRoom sem.size who (queue_part old.seat) (queue_part new.seat) new.standing
ClaimsRoomOnce sem who old new (Some passed) = Unit {0}

abbrev pub ClaimsItemOnce : {T : Type 0} → SemInfo → StepSeatInfo T → StepSeatInfo T → Bool → Type 0
ClaimsItemOnce sem old new true = ClaimsItem sem.size (queue_part old.seat) (queue_part new.seat) new.standing
ClaimsItemOnce sem old new false = Unit {0}

-- what a step after the first did in the wait queue; each such step does something
abbrev pub StepsToPark : {T : Type 0} → SemInfo → StepSeatInfo T → StepSeatInfo T → Bool → Type 0
StepsToPark sem old new done = StepsToParkFrom sem.size old.standing new.standing done (queue_part old.seat) (queue_part new.seat)

abbrev pub StepsToWake : {T : Type 0} → SemInfo → StepSeatInfo T → StepSeatInfo T → Option T → Type 0
StepsToWake sem old new woken = StepsToWakeFrom sem.size old.standing new.standing woken (queue_part old.seat) (queue_part new.seat)

-- a step after the first does not touch the credit
abbrev pub SameCredit : {T : Type 0} → StepSeatInfo T → StepSeatInfo T → Type 0
SameCredit old new = credit_part new.seat ≡ credit_part old.seat

-- a call beyond the stint changes nothing
pub record IsWornStep {T : Type 0} (old new : StepSeatInfo T) : Type 0 where
  pub spent : calls_made (credit_part old.seat) ≡ old.seat.stint
  pub unchanged : new ≡ old
