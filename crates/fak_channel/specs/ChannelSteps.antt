-- Calls of a channel by steps that never wait: what an open call has done so far, and how it ends.
use Rattle.std.specs.Prelude.{◌≡◌, ◌+◌, ◌<◌, ℕ, Bool, true, false, [], Option, Some, None, pos, ◌≤ℤ◌}
use Rattle.fak_model.specs.declared.queue.Kind.TheVariants.{Close}
use Rattle.fak_model.specs.declared.queue.Mark.{Mark}
use Rattle.fak_model.specs.Calls.{SeatInfo}
use Rattle.fak_model.specs.Queue.{Has, upper_count}
use Rattle.fak_queue.specs.Drained.{IsDrained}
use Rattle.fak_queue.specs.Queues.{state_of}
use Rattle.fak_queue.specs.declared.state.SeatState.TheVariants as at
use Rattle.fak_channel.specs.declared.channel.Channel.{Channel}
use Rattle.fak_channel.specs.declared.fault.ReceiveFault.{ReceiveFault}
use Rattle.fak_channel.specs.declared.fault.ReceiveFault.TheVariants as receiving
use Rattle.fak_channel.specs.declared.fault.SendFault.{SendFault}
use Rattle.fak_channel.specs.declared.fault.SendFault.TheVariants as sending
use Rattle.fak_channel.specs.declared.progress.Stop.{Stop}
use Rattle.fak_channel.specs.declared.progress.Stop.TheVariants as stop
use Rattle.fak_channel.specs.declared.seat.ChannelSeat.{ChannelSeat}
use Rattle.fak_channel.specs.declared.standing.ChannelStep.{ChannelStep}
use Rattle.fak_channel.specs.declared.standing.ChannelStep.TheVariants as step
use Rattle.fak_channel.specs.declared.standing.Next.{Next}
use Rattle.fak_channel.specs.declared.standing.Next.TheVariants.{Idle, Claiming, Inserting, Deleting, Checking, Registering, Testing, TestingDrained, TakingBack, Sleeping, Refusing, Refused, Shutting, Ending}
use Rattle.fak_channel.specs.declared.standing.Outcome.{Outcome}
use Rattle.fak_channel.specs.declared.standing.Outcome.TheVariants as outcome
use Rattle.fak_channel.specs.declared.standing.Wish.{Wish}
use Rattle.fak_channel.specs.declared.standing.Wish.TheVariants.{Send, Receive}
use Rattle.fak_channel.specs.Standings.{IsBetweenCalls, IsInCall, IsAsleep, role_of}
use Rattle.fak_channel.specs.Marks.{HasFoundFull, FullSoFar, HasFoundEmpty, EmptySoFar, HasClaimedIn, HasClaimedOut, HasMade, WasNotDrained}
use Rattle.fak_channel.specs.Channels.{IsSpent, OnlyLooks, NotesMore, StaysAwake, HasFallenAsleep, HasTakenBack, Sends, Receives, FindsClosed, IsOver, ClosesAs}
use Rattle.fak_channel.specs.Moves.{Moves}

-- what a call is asked to do
pub data Asked (T : Type 0) : Type 0 where
  Sending : T → Asked T
  Receiving : Asked T
  Closing : Asked T

-- ---- what an open call has done since it began

module _ {T : Type 0} (size : ℕ) where
  -- nothing was granted yet
  abbrev pub WaitsSince : Asked T → ChannelSeat T → Wish T → ChannelSeat T → Type 0
  WaitsSince (Sending x) began (Send y) s = (y ≡ x) × FullSoFar size began.queue.seat s.queue.seat
  WaitsSince (Sending x) began Receive s = ⊥
  WaitsSince Receiving began (Send y) s = ⊥
  WaitsSince Receiving began Receive s = EmptySoFar size began.queue.seat s.queue.seat
  WaitsSince Closing began w s = ⊥

  -- and at least one claim was refused
  abbrev pub RefusedSince : Asked T → ChannelSeat T → Wish T → ChannelSeat T → Type 0
  RefusedSince (Sending x) began (Send y) s = (y ≡ x) × HasFoundFull size began.queue.seat s.queue.seat
  RefusedSince (Sending x) began Receive s = ⊥
  RefusedSince Receiving began (Send y) s = ⊥
  RefusedSince Receiving began Receive s = HasFoundEmpty size began.queue.seat s.queue.seat
  RefusedSince Closing began w s = ⊥

  -- the same of a try; and after a claim of an item the channel was not drained
  abbrev pub TriedSince : Asked T → ChannelSeat T → Wish T → ChannelSeat T → Type 0
  TriedSince asked began (Send y) s = RefusedSince asked began (Send y) s
  TriedSince asked began Receive s = RefusedSince asked began Receive s × WasNotDrained size began.queue.seat s.queue.seat

  pub record InsertsSince (x : T) (began s : ChannelSeat T) : Type 0 where
    pub before : SeatInfo (Mark T)
    pub full : FullSoFar size began.queue.seat before
    pub ticket : ℕ
    pub claimed : HasClaimedIn size ticket x before s.queue.seat
    pub state : state_of s.queue.seat ≡ at.Inserting ticket

  pub record DeletesSince (began s : ChannelSeat T) : Type 0 where
    pub before : SeatInfo (Mark T)
    pub empty : EmptySoFar size began.queue.seat before
    pub ticket : ℕ
    pub claimed : HasClaimedOut size ticket before s.queue.seat
    pub state : state_of s.queue.seat ≡ at.Deleting ticket

  abbrev pub InsertsAs : Asked T → ChannelSeat T → ChannelSeat T → Type 0
  InsertsAs (Sending x) began s = InsertsSince x began s
  InsertsAs Receiving began s = ⊥
  InsertsAs Closing began s = ⊥

  abbrev pub DeletesAs : Asked T → ChannelSeat T → ChannelSeat T → Type 0
  DeletesAs (Sending x) began s = ⊥
  DeletesAs Receiving began s = DeletesSince began s
  DeletesAs Closing began s = ⊥

  abbrev pub ShutsSince : Asked T → ChannelSeat T → ChannelSeat T → Type 0
  ShutsSince (Sending x) began s = ⊥
  ShutsSince Receiving began s = ⊥
  ShutsSince Closing began s = s.queue.seat ≡ began.queue.seat

  -- ---- how a call ends

  abbrev pub EndsAs : Asked T → Outcome T → ChannelSeat T → ChannelSeat T → Type 0
  EndsAs (Sending x) outcome.Sent began new = Sends size x began new
  EndsAs (Sending x) (outcome.Refused y) began new = (y ≡ x) × FindsClosed size began new
  EndsAs (Sending x) o began new = ⊥
  EndsAs Receiving (outcome.Received x) began new = Receives size x began new
  EndsAs Receiving outcome.Drained began new = IsOver size began new
  EndsAs Receiving o began new = ⊥
  EndsAs Closing outcome.Closed began new = ClosesAs size true began new
  EndsAs Closing outcome.WasClosed began new = ClosesAs size false began new
  EndsAs Closing o began new = ⊥

  -- ---- an open call

  abbrev pub SinceAt : Next T → Asked T → ChannelSeat T → ChannelSeat T → Type 0
  SinceAt Idle asked began s = ⊥
  SinceAt (Claiming w) asked began s = WaitsSince asked began w s
  SinceAt Inserting asked began s = InsertsAs asked began s
  SinceAt Deleting asked began s = DeletesAs asked began s
  SinceAt Checking asked began s = RefusedSince asked began Receive s
  SinceAt (Registering w) asked began s = RefusedSince asked began w s
  SinceAt (Testing w) asked began s = RefusedSince asked began w s
  SinceAt TestingDrained asked began s = RefusedSince asked began Receive s
  SinceAt (TakingBack w) asked began s = RefusedSince asked began w s
  SinceAt (Sleeping w) asked began s = RefusedSince asked began w s × HasFallenAsleep (role_of w) began.queue s.queue
  SinceAt (Refusing w) asked began s = TriedSince asked began w s
  SinceAt (Refused w) asked began s = TriedSince asked began w s
  SinceAt Shutting asked began s = ShutsSince asked began s
  SinceAt (Ending o) asked began s = EndsAs asked o began s

  -- since the seat was in this state, between two calls, it was asked this and has come this far
  pub record CallSince (asked : Asked T) (began s : ChannelSeat T) : Type 0 where
    pub notes : NotesMore began.queue s.queue
    pub since : SinceAt s.standing.next asked began s

  -- after a step the call is done, or has come further
  abbrev pub StepsTo : Asked T → ChannelSeat T → ChannelSeat T → ChannelStep T → Type 0
  StepsTo asked began new step.GoesOn = CallSince asked began new
  StepsTo asked began new step.NotYet = CallSince asked began new
  StepsTo asked began new step.Sleeps = CallSince asked began new
  StepsTo asked began new (step.Wakes number) = CallSince asked began new
  StepsTo asked began new (step.Ends o) = EndsAs asked o began new

  abbrev pub Steps : ChannelSeat T → ChannelSeat T → ChannelStep T → Type 0
  Steps old new s = (asked : Asked T) (began : ChannelSeat T) → CallSince asked began old → StepsTo asked began new s

  -- a call that was given up: a try after its claim was refused; another after it slept, was not woken, and took its bit back
  abbrev pub GivesUpFrom : Next T → Asked T → ChannelSeat T → ChannelSeat T → Wish T → Type 0
  GivesUpFrom (Sleeping v) asked began new w = RefusedSince asked began w new × HasTakenBack (role_of w) began.queue new.queue
  GivesUpFrom (Refused v) asked began new w = TriedSince asked began w new
  GivesUpFrom _ asked began new w = ⊥

  -- a call is given up, or it had been woken before and goes on
  abbrev pub GivesUp : ChannelSeat T → ChannelSeat T → Option (Wish T) → Type 0
  GivesUp old new None = (asked : Asked T) (began : ChannelSeat T) → CallSince asked began old → CallSince asked began new
  GivesUp old new (Some w) = (asked : Asked T) (began : ChannelSeat T) → CallSince asked began old → GivesUpFrom old.standing.next asked began new w

  -- ---- runs of steps, whatever was asked

  -- where a run stops: the call sleeps, or it has ended
  abbrev pub StopsAt : ChannelSeat T → ChannelSeat T → Stop T → Type 0
  StopsAt old new stop.Sleeps = IsAsleep new × ((asked : Asked T) (began : ChannelSeat T) → CallSince asked began old → CallSince asked began new)
  StopsAt old new (stop.Ends o) = IsBetweenCalls new × ((asked : Asked T) (began : ChannelSeat T) → CallSince asked began old → EndsAs asked o began new)

  abbrev pub EndsAll : ChannelSeat T → ChannelSeat T → Outcome T → Type 0
  EndsAll old new o = (asked : Asked T) (began : ChannelSeat T) → CallSince asked began old → EndsAs asked o began new

  -- a try of which each claim was refused
  abbrev pub RefusesAll : ChannelSeat T → ChannelSeat T → Wish T → Type 0
  RefusesAll old new w = (asked : Asked T) (began : ChannelSeat T) → CallSince asked began old → TriedSince asked began w new

  -- each claim was refused; the seat fell asleep, nobody woke it, and it took its bit back
  abbrev pub WakesNone : ChannelSeat T → ChannelSeat T → Wish T → Type 0
  WakesNone old new w = (asked : Asked T) (began : ChannelSeat T) → CallSince asked began old → RefusedSince asked began w new × HasTakenBack (role_of w) began.queue new.queue

  -- a call that begins
  pub record BeginsAs (is_try : Bool) (asked : Asked T) (old new : ChannelSeat T) : Type 0 where
    pub in_call : IsInCall new
    pub tries : new.standing.tries ≡ is_try
    pub call : CallSince asked old new

  -- a call that begins with a look
  pub record BeginsAfterLook (asked : Asked T) (old new : ChannelSeat T) : Type 0 where
    pub looks : HasMade size [] old.queue.seat new.queue.seat
    pub same_notes : new.queue.notes ≡ old.queue.notes
    pub begins : BeginsAs true asked new new

  -- a try that does not begin, and the look that tells why
  abbrev pub RefusesBeginTrySend : T → ChannelSeat T → ChannelSeat T → SendFault T → Type 0
  RefusesBeginTrySend x old new (sending.Worn y) = (y ≡ x) × IsSpent old × (new ≡ old)
  RefusesBeginTrySend x old new (sending.Closed y) = (y ≡ x) × OnlyLooks size old new × Has Close new.queue.seat.seen
  RefusesBeginTrySend x old new (sending.Full y) = (y ≡ x) × OnlyLooks size old new × (pos size ≤ℤ upper_count new.queue.seat.seen) × (Has Close new.queue.seat.seen → ⊥)
  RefusesBeginTrySend x old new (sending.TimedOut y) = ⊥

  abbrev pub RefusesBeginTryReceive : ChannelSeat T → ChannelSeat T → ReceiveFault → Type 0
  RefusesBeginTryReceive old new receiving.Worn = IsSpent old × (new ≡ old)
  RefusesBeginTryReceive old new receiving.Closed = OnlyLooks size old new × IsDrained new.queue.seat.seen
  RefusesBeginTryReceive old new receiving.Empty = OnlyLooks size old new × (upper_count new.queue.seat.seen ≤ℤ pos 0) × (Has Close new.queue.seat.seen → ⊥)
  RefusesBeginTryReceive old new receiving.TimedOut = ⊥

-- if the call is a try, it has set no bit since then
abbrev pub KeepsAwake : {T : Type 0} → ChannelSeat T → ChannelSeat T → Type 0
KeepsAwake old now = old.standing.tries ≡ true → StaysAwake old.queue now.queue

-- the state of the seat after a step
abbrev pub StandsAfter : {T : Type 0} → ChannelSeat T → ChannelStep T → Type 0
StandsAfter new step.GoesOn = IsInCall new
StandsAfter new step.NotYet = IsInCall new
StandsAfter new step.Sleeps = IsAsleep new
StandsAfter new (step.Wakes number) = IsInCall new
StandsAfter new (step.Ends o) = IsBetweenCalls new

-- the most steps that `steps` takes
abbrev pub steps_at_once : ℕ
steps_at_once = 16

-- this many steps, each of which goes on
pub data HasGoneOn {T : Type 0} (c : Channel T) (old : ChannelSeat T) : ℕ → ChannelSeat T → Type 0 where
  none : HasGoneOn c old 0 old
  more : (taken : ℕ) (mid now : ChannelSeat T) → HasGoneOn c old taken mid → Moves c mid now step.GoesOn → HasGoneOn c old (taken + 1) now

-- some steps, each of which goes on, and a last one
pub record StepsLast {T : Type 0} (c : Channel T) (old new : ChannelSeat T) (s : ChannelStep T) : Type 0 where
  pub taken : ℕ
  pub few : taken < steps_at_once
  pub before : ChannelSeat T
  pub steps : HasGoneOn c old taken before
  pub last : Moves c before new s

-- the steps of `steps`: as many as it may take, or up to the first that does not go on
abbrev pub Runs : {T : Type 0} → Channel T → ChannelSeat T → ChannelSeat T → ChannelStep T → Type 0
Runs c old new step.GoesOn = HasGoneOn c old steps_at_once new
Runs c old new s = StepsLast c old new s
