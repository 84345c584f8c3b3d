-- What the type of a channel's seat keeps: how its standing agrees with its account as an end of the channel.
use Rattle.std.specs.Prelude.{◌≡◌, ◌≢◌, ℕ, ◌*◌, ◌<◌, ◌≤◌, Bool, true, false, IfSome, pos}
use Rattle.fak_model.specs.Limits.{large_seats}
use Rattle.fak_channel_core.specs.SleeperSides.{SleepStage, Awake, Registered, PastLower, Asleep, relies_on_bit, tried_stage}
use Rattle.fak_channel_core.specs.SleeperMoves.{Account}
use Rattle.fak_queue.specs.Queues.{drawn_by, state_of}
use Rattle.fak_queue.specs.declared.role.Role.{Role}
use Rattle.fak_queue.specs.declared.role.Role.TheVariants.{Sender, Receiver}
use Rattle.fak_queue.specs.declared.state.SeatState.{SeatState}
use Rattle.fak_queue.specs.declared.state.SeatState.TheVariants as at
use Rattle.fak_queue.specs.SleeperSeats.{SleeperInfo, account_of_seat}
use Rattle.fak_channel.specs.declared.channel.Channel.{Channel}
use Rattle.fak_channel.specs.declared.seat.ChannelSeat.{ChannelSeat}
use Rattle.fak_channel.specs.declared.standing.CallStanding.{CallStanding}
use Rattle.fak_channel.specs.declared.standing.ChannelState.{ChannelState}
use Rattle.fak_channel.specs.declared.standing.ChannelState.TheVariants as state
use Rattle.fak_channel.specs.declared.standing.Next.{Next}
use Rattle.fak_channel.specs.declared.standing.Next.TheVariants.{Idle, Claiming, Inserting, Deleting, Checking, Registering, Testing, TestingDrained, TakingBack, Sleeping, Refusing, Refused, Shutting, Ending}
use Rattle.fak_channel.specs.declared.standing.Wish.{Wish}
use Rattle.fak_channel.specs.declared.standing.Wish.TheVariants.{Send, Receive}
use Rattle.fak_channel.specs.declared.standing.Looks.{Looks}
use Rattle.fak_channel.specs.Looks.{Covers, fresh_looks, words_of}

abbrev pub call_state : {T : Type 0} → Next T → ChannelState
call_state Idle = state.Idle
call_state (Claiming w) = state.Open
call_state Inserting = state.Open
call_state Deleting = state.Open
call_state Checking = state.Open
call_state (Registering w) = state.Open
call_state (Testing w) = state.Open
call_state TestingDrained = state.Open
call_state (TakingBack w) = state.Open
call_state (Sleeping w) = state.Sleeping
call_state (Refusing w) = state.Open
call_state (Refused w) = state.Sleeping
call_state Shutting = state.Open
call_state (Ending o) = state.Open

-- a seat that has begun no call
abbrev pub fresh_standing : {T : Type 0} → CallStanding T
fresh_standing = record { senders = fresh_looks; receivers = fresh_looks; checks = false; tries = false; next = Idle }

-- a call is open
abbrev pub IsInCall : {T : Type 0} → ChannelSeat T → Type 0
IsInCall s = call_state s.standing.next ≢ state.Idle

-- a call is open and sleeps, or it is a try that would have to sleep
abbrev pub IsAsleep : {T : Type 0} → ChannelSeat T → Type 0
IsAsleep s = call_state s.standing.next ≡ state.Sleeping

-- no call is open
abbrev pub IsBetweenCalls : {T : Type 0} → ChannelSeat T → Type 0
IsBetweenCalls s = call_state s.standing.next ≡ state.Idle

-- the role of an end with this wish, and the other one
abbrev pub role_of : {T : Type 0} → Wish T → Role
role_of (Send x) = Sender
role_of Receive = Receiver

-- ---- stages

-- the stages of an end as a sender and as a receiver
pub record StagesAre (sender_stage receiver_stage : SleepStage) (g : Account) : Type 0 where
  pub sender : g.sender.stage ≡ sender_stage
  pub receiver : g.receiver.stage ≡ receiver_stage

-- in its role it is at this stage, and in the other one it is awake
abbrev pub StageFor : {T : Type 0} → Wish T → SleepStage → Account → Type 0
StageFor (Send x) stage g = StagesAre stage Awake g
StageFor Receive stage g = StagesAre Awake stage g

abbrev pub IsAwake : Account → Type 0
IsAwake g = StagesAre Awake Awake g

-- ---- debts

-- nothing is owed to others
pub record OwesNone {T : Type 0} (s : CallStanding T) : Type 0 where
  pub senders : s.senders.is_owed ≡ false
  pub receivers : s.receivers.is_owed ≡ false
  pub checks : s.checks ≡ false

-- the standing pays what the account owes, except a check that comes next
pub record Pays {T : Type 0} (ends : ℕ) (s : CallStanding T) (g : Account) : Type 0 where
  pub senders : Covers ends s.senders g.sender
  pub receivers : Covers ends s.receivers g.receiver

abbrev pub ChecksIf : {T : Type 0} → CallStanding T → Account → Type 0
ChecksIf s g = s.checks ≡ false → g.checks ≡ false

-- ---- what comes next

abbrev pub ticket_in : SeatState → ℕ
ticket_in at.Idle = 0
ticket_in (at.Inserting k) = k
ticket_in (at.Deleting k) = k

-- a ticket of the queue is left
abbrev pub HasTicket : {T : Type 0} → SleeperInfo T → Type 0
HasTicket q = drawn_by q.seat < q.seat.stint

-- between two calls on the queue, with a ticket left
pub record MayClaim {T : Type 0} (q : SleeperInfo T) : Type 0 where
  pub idle : state_of q.seat ≡ at.Idle
  pub ticket : HasTicket q

-- the seat is so to the queue, and owes nothing; its account is such
pub record StandsClear {T : Type 0} (Fits : SleeperInfo T → Type 0) (Is : Account → Type 0) (s : CallStanding T) (q : SleeperInfo T) (g : Account) : Type 0 where
  pub queue : Fits q
  pub none : OwesNone s
  pub checks : ChecksIf s g
  pub stages : Is g

-- the same of a seat that may owe something
pub record StandsOwing {T : Type 0} (Fits : SleeperInfo T → Type 0) (s : CallStanding T) (q : SleeperInfo T) (g : Account) : Type 0 where
  pub queue : Fits q
  pub checks : ChecksIf s g
  pub stages : IsAwake g

-- a check comes next, and no other is owed
pub record StandsChecking {T : Type 0} (s : CallStanding T) (q : SleeperInfo T) (g : Account) : Type 0 where
  pub queue : MayClaim q
  pub none : s.checks ≡ false
  pub stages : IsAwake g

-- the same of a call that is a try, or is none
pub record IsOfKind {T : Type 0} (is_try : Bool) (s : CallStanding T) (Fits : Type 0) : Type 0 where
  pub stands : Fits
  pub tries : s.tries ≡ is_try

abbrev pub IsIdle : {T : Type 0} → SleeperInfo T → Type 0
IsIdle q = state_of q.seat ≡ at.Idle

abbrev pub IsInserting : {T : Type 0} → SleeperInfo T → Type 0
IsInserting q = state_of q.seat ≡ at.Inserting (ticket_in (state_of q.seat))

abbrev pub IsDeleting : {T : Type 0} → SleeperInfo T → Type 0
IsDeleting q = state_of q.seat ≡ at.Deleting (ticket_in (state_of q.seat))

-- an end that claims has not slept, or another has woken it; in the other role it is awake
pub record SenderIsUp (g : Account) : Type 0 where
  pub sender : tried_stage g.sender.stage ≡ Awake
  pub receiver : g.receiver.stage ≡ Awake

pub record ReceiverIsUp (g : Account) : Type 0 where
  pub sender : g.sender.stage ≡ Awake
  pub receiver : tried_stage g.receiver.stage ≡ Awake

abbrev pub IsUp : {T : Type 0} → Wish T → Account → Type 0
IsUp (Send x) g = SenderIsUp g
IsUp Receive g = ReceiverIsUp g

-- its bit is set, unless another end has cleared it
pub record SenderHasSet (g : Account) : Type 0 where
  pub sender : relies_on_bit g.sender.stage ≡ true
  pub receiver : g.receiver.stage ≡ Awake

pub record ReceiverHasSet (g : Account) : Type 0 where
  pub sender : g.sender.stage ≡ Awake
  pub receiver : relies_on_bit g.receiver.stage ≡ true

abbrev pub HasSet : {T : Type 0} → Wish T → Account → Type 0
HasSet (Send x) g = SenderHasSet g
HasSet Receive g = ReceiverHasSet g

-- what the queue's seat and the account satisfy in each state
abbrev pub StandsSo : {T : Type 0} → Next T → CallStanding T → SleeperInfo T → Account → Type 0
StandsSo Idle s q g = StandsClear IsIdle IsAwake s q g
StandsSo (Claiming w) s q g = StandsClear MayClaim (IsUp w) s q g
StandsSo Inserting s q g = StandsClear IsInserting IsAwake s q g
StandsSo Deleting s q g = StandsClear IsDeleting IsAwake s q g
StandsSo Checking s q g = StandsChecking s q g
StandsSo (Registering w) s q g = IsOfKind false s (StandsOwing MayClaim s q g)
StandsSo (Testing w) s q g = IsOfKind false s (StandsClear MayClaim (StageFor w Registered) s q g)
StandsSo TestingDrained s q g = IsOfKind false s (StandsClear MayClaim (StagesAre Awake PastLower) s q g)
StandsSo (TakingBack w) s q g = IsOfKind false s (StandsClear MayClaim (HasSet w) s q g)
StandsSo (Sleeping w) s q g = IsOfKind false s (StandsClear MayClaim (StageFor w Asleep) s q g)
StandsSo (Refusing w) s q g = IsOfKind true s (StandsOwing MayClaim s q g)
StandsSo (Refused w) s q g = IsOfKind true s (StandsClear MayClaim IsAwake s q g)
StandsSo Shutting s q g = StandsClear IsIdle IsAwake s q g
StandsSo (Ending o) s q g = StandsOwing IsIdle s q g

-- the seat belongs to this channel, and its standing agrees with its account
pub record IsStepSeatOf {T : Type 0} (c : Channel T) (s : ChannelSeat T) : Type 0 where
  pub object : s.queue.seat.object ≡ c.queue.object
  pub ends : c.ends ≡ c.queue.object.seats
  pub cells : c.size ≡ pos c.queue.size
  pub few : c.ends ≤ large_seats
  pub pays : Pays c.ends s.standing (account_of_seat s.queue)
  pub next : StandsSo s.standing.next s.standing s.queue (account_of_seat s.queue)

-- the same between two calls
pub record IsSeatOf {T : Type 0} (c : Channel T) (s : ChannelSeat T) : Type 0 where
  pub stands : IsStepSeatOf c s
  pub idle : IsBetweenCalls s

-- the seat may take the next step of this look
pub record CanLook {T : Type 0} (c : Channel T) (l : Looks) (s : ChannelSeat T) : Type 0 where
  pub object : s.queue.seat.object ≡ c.queue.object
  pub idle : state_of s.queue.seat ≡ at.Idle
  pub few : c.ends ≤ large_seats
  pub from : l.from < 64 * words_of c.ends
  pub found : IfSome l.found (λ k. k < large_seats)
