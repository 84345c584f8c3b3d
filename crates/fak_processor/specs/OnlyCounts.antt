-- What calls do to semaphores and rooms that have one seat.
use Rattle.std.specs.Prelude.{ℕ, ◌+◌, ◌-◌, ◌≡◌, ◌<◌, ◌≤◌, pos, List, [], ◌∷◌, ◌++◌, length}
use Rattle.fak_model.specs.declared.credit.CreditMark.{CreditMark}
use Rattle.fak_model.specs.declared.room.RoomMark.{RoomMark}
use Rattle.fak_model.specs.declared.queue.Mark.{Mark}
use Rattle.fak_model.specs.Credit.{debits, credits}
use Rattle.fak_model.specs.Room.{value}
use Rattle.fak_model.specs.Queue.{contents}
use Rattle.fak_model.specs.Calls.{SeatInfo}
use Rattle.fak_count.specs.Rooms.{held_amount}
use Rattle.fak_sem.specs.Semaphores.{SemSeatInfo, credit_part, queue_part}
use Rattle.fak_run.specs.Only.{IsOnly}

-- ---- semaphores

-- the count that is left, and who sleeps
abbrev pub semaphore_count : {T : Type 0} → SemSeatInfo T → ℕ
semaphore_count s = (s.object.start + credits s.credit_seen) - debits s.credit_seen

abbrev pub sleepers_of : {T : Type 0} → SemSeatInfo T → List T
sleepers_of s = contents s.queue_seen

-- a semaphore's only seat: as many sleep as debits are owed
pub record IsOnlySem {T : Type 0} (seat : SemSeatInfo T) : Type 0 where
  pub credit : IsOnly (λ (m : CreditMark). m.seat) (credit_part seat)
  pub queue : IsOnly (λ (m : Mark T). m.seat) (queue_part seat)
  pub owed : length (sleepers_of seat) ≡ debits seat.credit_seen - (seat.object.start + credits seat.credit_seen)

pub record Passes {T : Type 0} (old new : SemSeatInfo T) : Type 0 where
  pub only : IsOnlySem new
  pub count : semaphore_count old ≡ semaphore_count new + 1
  pub sleepers : sleepers_of new ≡ sleepers_of old

pub record Parks {T : Type 0} (who : T) (old new : SemSeatInfo T) : Type 0 where
  pub only : IsOnlySem new
  pub none : semaphore_count old ≡ 0
  pub count : semaphore_count new ≡ 0
  pub sleepers : sleepers_of new ≡ sleepers_of old ++ who ∷ []

pub record Raises {T : Type 0} (old new : SemSeatInfo T) : Type 0 where
  pub only : IsOnlySem new
  pub count : semaphore_count new ≡ semaphore_count old + 1
  pub none : sleepers_of old ≡ []
  pub sleepers : sleepers_of new ≡ sleepers_of old

pub record Rouses {T : Type 0} (x : T) (old new : SemSeatInfo T) : Type 0 where
  pub only : IsOnlySem new
  pub count : semaphore_count new ≡ semaphore_count old
  pub sleepers : sleepers_of old ≡ x ∷ sleepers_of new

-- ---- rooms

-- a room's only seat: the value is what it holds
pub record IsOnlyRoom (seat : SeatInfo RoomMark) : Type 0 where
  pub only : IsOnly (λ (m : RoomMark). m.seat) seat
  pub held : value seat.seen ≡ pos (held_amount seat)

pub record Claims (bound : ℕ) (old new : SeatInfo RoomMark) : Type 0 where
  pub only : IsOnlyRoom new
  pub fits : held_amount old < bound
  pub held : held_amount new ≡ held_amount old + 1

pub record FindsFull (bound : ℕ) (old new : SeatInfo RoomMark) : Type 0 where
  pub only : IsOnlyRoom new
  pub full : bound ≤ held_amount old
  pub held : held_amount new ≡ held_amount old

pub record GivesBack (old new : SeatInfo RoomMark) : Type 0 where
  pub only : IsOnlyRoom new
  pub held : held_amount new + 1 ≡ held_amount old
