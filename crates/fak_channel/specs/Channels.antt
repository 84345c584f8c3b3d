-- What callers see of a channel and of its seats, and what whole calls do to them. Histories have the oldest mark first.
use Rattle.std.specs.Prelude.{◌≡◌, ◌⊎◌, ℕ, Bool, true, false, List, [], ◌∷◌, ◌++◌, replicate, Some, pos, ◌≤ℤ◌}
use Rattle.std.specs.List.{All}
use Rattle.fak_model.specs.declared.note.Note.{Note}
use Rattle.fak_model.specs.declared.note.NoteKind.{NoteKind}
use Rattle.fak_model.specs.declared.note.NoteKind.TheVariants.{AsSender, AsReceiver, Checks}
use Rattle.fak_model.specs.declared.note.Sign.{Sign}
use Rattle.fak_model.specs.declared.note.Sign.TheVariants.{Registers, FallsAsleep, TakesBack, FindsBit}
use Rattle.fak_model.specs.declared.queue.Mark.{Mark}
use Rattle.fak_model.specs.Queue.{IsQueueHistory, item_at, items_put, lower_count}
use Rattle.fak_model.specs.Calls.{SeatInfo}
use Rattle.fak_queue.specs.Drained.{IsDrained}
use Rattle.fak_queue.specs.Queues.{Deletes, ShutsAs, drawn_by}
use Rattle.fak_queue.specs.Retries.{InsertsAfterFull, ClosesAfterFull}
use Rattle.fak_queue.specs.Sleepers.{as_role}
use Rattle.fak_queue.specs.declared.role.Role.{Role}
use Rattle.fak_queue.specs.declared.role.Role.TheVariants.{Sender, Receiver}
use Rattle.fak_queue.specs.SleeperSeats.{SleeperInfo, note_of}
use Rattle.fak_channel.specs.declared.seat.ChannelSeat.{ChannelSeat}
use Rattle.fak_channel.specs.declared.fault.SendFault.{SendFault}
use Rattle.fak_channel.specs.declared.fault.SendFault.TheVariants as sending
use Rattle.fak_channel.specs.declared.fault.ReceiveFault.{ReceiveFault}
use Rattle.fak_channel.specs.declared.fault.ReceiveFault.TheVariants as receiving
use Rattle.fak_channel.specs.Marks.{HasMade, Looked, HasFoundFull, EmptySoFar, HasFoundEmpty, WasNotDrained}

-- ---- seats

-- no ticket is left of the stint
abbrev pub IsSpent : {T : Type 0} → ChannelSeat T → Type 0
IsSpent s = drawn_by s.queue.seat ≡ s.queue.seat.stint

-- ---- notes

-- the seat has noted no less
abbrev pub NotesMore : {T : Type 0} → SleeperInfo T → SleeperInfo T → Type 0
NotesMore old now = (more : List Note) × (now.notes ≡ more ++ old.notes)

-- a step by which the end sets its bit: each sleep begins so
abbrev pub registers : Sign → Bool
registers Registers = true
registers _ = false

abbrev pub sets_bit : NoteKind → Bool
sets_bit (AsSender v) = registers v
sets_bit (AsReceiver v) = registers v
sets_bit (Checks drained) = false

-- since then the seat has set no bit, so it has not slept
pub record StaysAwake {T : Type 0} (old now : SleeperInfo T) : Type 0 where
  pub more : List Note
  pub notes : now.notes ≡ more ++ old.notes
  pub awake : All (λ n. sets_bit n.kind ≡ false) more

-- it fell asleep in this role, and has found its bit still set at each of this many loads since
abbrev pub slept : {T : Type 0} → Role → ℕ → SleeperInfo T → List Note → List Note
slept role loads now before = replicate loads (note_of (as_role role (FindsBit now.seat.name true)) now) ++ (note_of (as_role role FallsAsleep) now ∷ before)

-- since then it has set its bit in this role and fallen asleep, and has seen no wake
pub record HasFallenAsleep {T : Type 0} (role : Role) (old now : SleeperInfo T) : Type 0 where
  pub more : List Note
  pub loads : ℕ
  pub notes : now.notes ≡ slept role loads now (more ++ old.notes)

-- and then it has found its bit still set, and has cleared it itself
pub record HasTakenBack {T : Type 0} (role : Role) (old now : SleeperInfo T) : Type 0 where
  pub more : List Note
  pub loads : ℕ
  pub notes : now.notes ≡ note_of (as_role role TakesBack) now ∷ slept role loads now (more ++ old.notes)

-- ---- sending

-- the item went in by one whole insertion of the queue's history
pub record Sends {T : Type 0} (size : ℕ) (x : T) (old new : ChannelSeat T) : Type 0 where
  pub ticket : ℕ
  pub sent : SeatInfo (Mark T)
  pub inserts : InsertsAfterFull size ticket x old.queue.seat sent
  pub looks : Looked size sent new.queue.seat
  pub put : item_at (items_put new.queue.seat.seen) ticket ≡ Some x

-- the insertion found the queue shut
pub record FindsClosed {T : Type 0} (size : ℕ) (old new : ChannelSeat T) : Type 0 where
  pub found : SeatInfo (Mark T)
  pub closes : ClosesAfterFull size old.queue.seat found
  pub looks : Looked size found new.queue.seat

-- each claim found the queue full; the seat fell asleep, was not woken, and took its bit back
pub record GivesUpSending {T : Type 0} (size : ℕ) (old new : ChannelSeat T) : Type 0 where
  pub full : HasFoundFull size old.queue.seat new.queue.seat
  pub slept : HasTakenBack Sender old.queue new.queue

-- a send is refused, and its item comes back
abbrev pub RefusesSend : {T : Type 0} → ℕ → T → ChannelSeat T → ChannelSeat T → SendFault T → Type 0
RefusesSend size x old new (sending.Worn y) = (y ≡ x) × IsSpent old × (new ≡ old)
RefusesSend size x old new (sending.Closed y) = (y ≡ x) × FindsClosed size old new
RefusesSend size x old new (sending.Full y) = ⊥
RefusesSend size x old new (sending.TimedOut y) = ⊥

abbrev pub RefusesSendUntil : {T : Type 0} → ℕ → T → ChannelSeat T → ChannelSeat T → SendFault T → Type 0
RefusesSendUntil size x old new (sending.TimedOut y) = (y ≡ x) × GivesUpSending size old new
RefusesSendUntil size x old new fault = RefusesSend size x old new fault

-- a try is refused as full only if its claim on the queue was
abbrev pub RefusesTrySend : {T : Type 0} → ℕ → T → ChannelSeat T → ChannelSeat T → SendFault T → Type 0
RefusesTrySend size x old new (sending.Full y) = (y ≡ x) × HasFoundFull size old.queue.seat new.queue.seat
RefusesTrySend size x old new fault = RefusesSend size x old new fault

-- ---- receiving

-- the oldest item came out by one whole deletion of the queue's history
pub record Receives {T : Type 0} (size : ℕ) (x : T) (old new : ChannelSeat T) : Type 0 where
  pub began : SeatInfo (Mark T)
  pub empty : EmptySoFar size old.queue.seat began
  pub ticket : ℕ
  pub taken : SeatInfo (Mark T)
  pub deletes : Deletes size ticket x began taken
  pub looks : Looked size taken new.queue.seat

-- each claim found the queue empty; and then it was shut and drained
pub record IsOver {T : Type 0} (size : ℕ) (old new : ChannelSeat T) : Type 0 where
  pub found : SeatInfo (Mark T)
  pub empty : HasFoundEmpty size old.queue.seat found
  pub lawful : IsQueueHistory size found.seen
  pub drained : IsDrained found.seen
  pub looks : Looked size found new.queue.seat

-- each claim found the queue empty; the seat fell asleep, was not woken, and took its bit back
pub record GivesUpReceiving {T : Type 0} (size : ℕ) (old new : ChannelSeat T) : Type 0 where
  pub empty : HasFoundEmpty size old.queue.seat new.queue.seat
  pub slept : HasTakenBack Receiver old.queue new.queue

abbrev pub RefusesReceive : {T : Type 0} → ℕ → ChannelSeat T → ChannelSeat T → ReceiveFault → Type 0
RefusesReceive size old new receiving.Worn = IsSpent old × (new ≡ old)
RefusesReceive size old new receiving.Closed = IsOver size old new
RefusesReceive size old new receiving.Empty = ⊥
RefusesReceive size old new receiving.TimedOut = ⊥

abbrev pub RefusesReceiveUntil : {T : Type 0} → ℕ → ChannelSeat T → ChannelSeat T → ReceiveFault → Type 0
RefusesReceiveUntil size old new receiving.TimedOut = GivesUpReceiving size old new
RefusesReceiveUntil size old new fault = RefusesReceive size old new fault

-- a try is refused as empty only if its claim on the queue was, and then the channel was not drained
abbrev pub RefusesTryReceive : {T : Type 0} → ℕ → ChannelSeat T → ChannelSeat T → ReceiveFault → Type 0
RefusesTryReceive size old new receiving.Empty = HasFoundEmpty size old.queue.seat new.queue.seat × WasNotDrained size old.queue.seat new.queue.seat
RefusesTryReceive size old new fault = RefusesReceive size old new fault

-- ---- closing

-- the queue was shut, and was open before or not
pub record ClosesAs {T : Type 0} (size : ℕ) (was_open : Bool) (old new : ChannelSeat T) : Type 0 where
  pub shut : SeatInfo (Mark T)
  pub shuts : ShutsAs size was_open old.queue.seat shut
  pub looks : Looked size shut new.queue.seat

-- ---- looking

-- a look leaves no mark, and no call changes
pub record OnlyLooks {T : Type 0} (size : ℕ) (old new : ChannelSeat T) : Type 0 where
  pub looks : HasMade size [] old.queue.seat new.queue.seat
  pub same_notes : new.queue.notes ≡ old.queue.notes
  pub same_call : new.standing ≡ old.standing

-- the number of items that no receiver has claimed, after all that the seat has seen
abbrev pub IsLength : {T : Type 0} → ℕ → ChannelSeat T → Type 0
IsLength n s = (lower_count s.queue.seat.seen ≡ pos n) ⊎ ((n ≡ 0) × (lower_count s.queue.seat.seen ≤ℤ pos 0))
