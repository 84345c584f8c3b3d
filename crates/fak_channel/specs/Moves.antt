-- Which step a call takes from where it stands, what the step does to its seat and to its account, and what it returns.
use Rattle.std.specs.Prelude.{◌≡◌, ◌≢◌, ◌⊎◌, ℕ, ◌<◌, ℤ, Bool, true, false, if◌then◌else◌, Option, Some, None}
use Rattle.fak_model.specs.declared.note.NoteKind.TheVariants.{AsSender, AsReceiver}
use Rattle.fak_model.specs.declared.note.Sign.TheVariants.{Registers, FindsNoItem, FallsAsleep, IsWoken, TakesBack, FindsBit, PassesWord, FindsWord, WakesEnd}
use Rattle.fak_model.specs.declared.queue.Kind.TheVariants.{Close}
use Rattle.fak_model.specs.Queue.{Has}
use Rattle.fak_queue.specs.declared.role.Role.{Role}
use Rattle.fak_queue.specs.declared.role.Role.TheVariants.{Sender, Receiver}
use Rattle.fak_queue.specs.declared.state.SeatState.TheVariants as at
use Rattle.fak_queue.specs.Drained.{IsDrained}
use Rattle.fak_queue.specs.Queues.{Makes, ClaimsIn, ClaimsOut, Fills, Takes, WaitsToFill, WaitsToTake, RefusesFull, RefusesClosed, RefusesEmpty, ShutsAs, drawn_by, state_of}
use Rattle.fak_queue.specs.Refusals.{kinds_full, kinds_empty}
use Rattle.fak_queue.specs.Sleepers.{as_role}
use Rattle.fak_queue.specs.SleeperSeats.{SleeperInfo, AddsNote, AddsNoNote, KeepsNotes, TakesBit, ChecksDrained}
use Rattle.fak_queue.specs.Found.{HasRoom, HasNoRoom, HasItem, HasNoItem}
use Rattle.fak_channel.specs.declared.channel.Channel.{Channel}
use Rattle.fak_channel.specs.declared.seat.ChannelSeat.{ChannelSeat}
use Rattle.fak_channel.specs.declared.progress.Progress.{Progress}
use Rattle.fak_channel.specs.declared.progress.Progress.TheVariants as progress
use Rattle.fak_channel.specs.declared.standing.CallStanding.{CallStanding}
use Rattle.fak_channel.specs.declared.standing.ChannelStep.{ChannelStep}
use Rattle.fak_channel.specs.declared.standing.ChannelStep.TheVariants.{GoesOn, NotYet, Sleeps, Wakes, Ends}
use Rattle.fak_channel.specs.declared.standing.Looks.{Looks}
use Rattle.fak_channel.specs.declared.standing.Next.{Next}
use Rattle.fak_channel.specs.declared.standing.Next.TheVariants.{Idle, Claiming, Inserting, Deleting, Checking, Registering, Testing, TestingDrained, TakingBack, Sleeping, Refusing, Refused, Shutting, Ending}
use Rattle.fak_channel.specs.declared.standing.Outcome.{Outcome}
use Rattle.fak_channel.specs.declared.standing.Outcome.TheVariants as outcome
use Rattle.fak_channel.specs.declared.standing.Wish.{Wish}
use Rattle.fak_channel.specs.declared.standing.Wish.TheVariants.{Send, Receive}
use Rattle.fak_channel.specs.Looks.{IsFoundAt, word_at, owing, past_word, past_bits, finding, retrying, done_at}
use Rattle.fak_channel.specs.Standings.{role_of, ticket_in}

-- ---- what an end does first

-- what is owed first: a look for a sleeper of a role, a check, or nothing
pub data Debt : Type 0 where
  Look : Role → Debt
  Check : Debt
  None_owed : Debt

abbrev pub first_debt : {T : Type 0} → CallStanding T → Debt
first_debt s = if s.senders.is_owed then Look Sender else (if s.receivers.is_owed then Look Receiver else (if s.checks then Check else None_owed))

-- ---- standings

abbrev pub looks_for : {T : Type 0} → Role → CallStanding T → Looks
looks_for Sender s = s.senders
looks_for Receiver s = s.receivers

abbrev pub with_looks : {T : Type 0} → Role → Looks → CallStanding T → CallStanding T
with_looks Sender l s = record s { senders = l }
with_looks Receiver l s = record s { receivers = l }

abbrev pub with_next : {T : Type 0} → Next T → CallStanding T → CallStanding T
with_next next s = record s { next = next }

-- the seat with this next
abbrev pub at_next : {T : Type 0} → Next T → ChannelSeat T → ChannelSeat T
at_next next s = record s { standing = with_next next s.standing }

-- a look for a sender is owed, and a check
abbrev pub room_made : {T : Type 0} → ℕ → CallStanding T → CallStanding T
room_made ends s = record s { senders = owing ends s.senders; checks = true }

-- a look for a receiver is owed
abbrev pub item_made : {T : Type 0} → ℕ → CallStanding T → CallStanding T
item_made ends s = record s { receivers = owing ends s.receivers }

-- the same if a claim was withdrawn: a claim that its first test refused has made nothing
abbrev pub room_made_if : {T : Type 0} → Bool → ℕ → CallStanding T → CallStanding T
room_made_if withdraws ends s = if withdraws then room_made ends s else s

abbrev pub item_made_if : {T : Type 0} → Bool → ℕ → CallStanding T → CallStanding T
item_made_if withdraws ends s = if withdraws then item_made ends s else s

-- the channel was checked: if it is drained, a look for a receiver is owed
abbrev pub checked : {T : Type 0} → ℕ → Bool → CallStanding T → CallStanding T
checked ends drained s = record s { receivers = if drained then owing ends s.receivers else s.receivers; checks = false }

-- a claim was refused: a try ends, and another call sets its bit
abbrev pub refused_next : {T : Type 0} → CallStanding T → Wish T → Next T
refused_next s w = if s.tries then Refusing w else Registering w

-- ---- steps on the queue

-- a call on the queue leaves the notes as they are, and the object
pub record Calls {T : Type 0} (size : ℕ) (old new : SleeperInfo T) : Type 0 where
  pub object : new.seat.object ≡ old.seat.object
  pub notes : KeepsNotes size old new

-- the claim was refused
pub record WasRefused {T : Type 0} (size : ℕ) (old new : SleeperInfo T) : Type 0 where
  pub calls : Calls size old new
  pub idle : state_of new.seat ≡ at.Idle
  pub within : drawn_by old.seat < old.seat.stint
  pub drawn : drawn_by new.seat ≡ drawn_by old.seat

-- ---- looks

module _ {T : Type 0} (ends size : ℕ) (role : Role) (l : Looks) (old new : ChannelSeat T) where
  -- a load of a word of bits: none is set; or some are, all of ends before that from which on it looks; or the one of end k is,
  -- which is to be cleared next
  pub data LoadsWord : Type 0 where
    passes : AddsNote size (as_role role (PassesWord (word_at l))) old.queue new.queue → new.standing ≡ with_looks role (past_word ends l) old.standing → LoadsWord
    goes_round : (found : ℕ) → AddsNote size (as_role role (FindsWord (word_at l) found)) old.queue new.queue → found ≢ 0 → IsFoundAt found l None
        → new.standing ≡ with_looks role (past_bits ends l) old.standing → LoadsWord
    finds : (k found : ℕ) → AddsNote size (as_role role (FindsWord (word_at l) found)) old.queue new.queue → IsFoundAt found l (Some k)
        → new.standing ≡ with_looks role (finding k l) old.standing → LoadsWord

  -- the deletion of the bit of end k: it was set, and this wakes that end; or it was clear, since another end was faster, and
  -- the look is tried again
  abbrev pub ClearsBit : ℕ → ChannelStep T → Type 0
  ClearsBit k (Wakes number) = (number ≡ k) × AddsNote size (as_role role (WakesEnd k)) old.queue new.queue × (new.standing ≡ with_looks role (done_at ends k l) old.standing)
  ClearsBit k GoesOn = AddsNote size (as_role role (FindsBit k false)) old.queue new.queue × (new.standing ≡ with_looks role (retrying l) old.standing)
  ClearsBit k _ = ⊥

  abbrev pub GoesOnBy : Type 0 → ChannelStep T → Type 0
  GoesOnBy P GoesOn = P
  GoesOnBy P _ = ⊥

  abbrev pub LooksOnce : Option ℕ → ChannelStep T → Type 0
  LooksOnce None s = GoesOnBy LoadsWord s
  LooksOnce (Some k) s = ClearsBit k s

-- ---- what comes next

module _ {T : Type 0} (c : Channel T) (old new : ChannelSeat T) where
  abbrev ends : ℕ
  ends = c.ends

  abbrev size : ℕ
  size = c.queue.size

  -- the standing is that of before, except for this
  abbrev pub Stands : CallStanding T → Type 0
  Stands s = new.standing ≡ s

  -- a claim of room. A refused one owes looks only if it had counted, and was withdrawn
  pub data ClaimsRoom (x : T) : Type 0 where
    room_granted : (k : ℕ) → Calls size old.queue new.queue → state_of new.queue.seat ≡ at.Inserting k → ClaimsIn size k x old.queue.seat new.queue.seat → Stands (with_next Inserting old.standing) → ClaimsRoom x
    found_full : (upper : ℤ) (withdraws : Bool) → WasRefused size old.queue new.queue → RefusesFull size upper old.queue.seat new.queue.seat
        → Makes size (kinds_full withdraws) old.queue.seat new.queue.seat → Stands (with_next (refused_next old.standing (Send x)) (room_made_if withdraws ends old.standing)) → ClaimsRoom x
    found_closed : WasRefused size old.queue new.queue → RefusesClosed size old.queue.seat new.queue.seat → Stands (with_next (Ending (outcome.Refused x)) (room_made ends old.standing)) → ClaimsRoom x

  -- a claim of an item
  pub data ClaimsItem : Type 0 where
    item_granted : (k : ℕ) → Calls size old.queue new.queue → state_of new.queue.seat ≡ at.Deleting k → ClaimsOut size k old.queue.seat new.queue.seat → Stands (with_next Deleting old.standing) → ClaimsItem
    found_empty : (lower : ℤ) (withdraws : Bool) → WasRefused size old.queue new.queue → RefusesEmpty size lower old.queue.seat new.queue.seat
        → Makes size (kinds_empty withdraws) old.queue.seat new.queue.seat → Stands (with_next Checking (item_made_if withdraws ends old.standing)) → ClaimsItem

  -- the item goes into its cell, or its turn has not come
  pub record FillsCell : Type 0 where
    pub calls : Calls size old.queue new.queue
    pub idle : state_of new.queue.seat ≡ at.Idle
    pub fills : Fills size (ticket_in (state_of old.queue.seat)) old.queue.seat new.queue.seat
    pub stands : Stands (with_next (Ending outcome.Sent) (item_made ends old.standing))

  pub record WaitsForRoom : Type 0 where
    pub calls : Calls size old.queue new.queue
    pub same : state_of new.queue.seat ≡ state_of old.queue.seat
    pub waits : WaitsToFill size (ticket_in (state_of old.queue.seat)) old.queue.seat new.queue.seat
    pub stands : Stands old.standing

  -- the item comes out of its cell, or its turn has not come
  pub record TakesItem : Type 0 where
    pub item : T
    pub calls : Calls size old.queue new.queue
    pub idle : state_of new.queue.seat ≡ at.Idle
    pub takes : Takes size (ticket_in (state_of old.queue.seat)) item old.queue.seat new.queue.seat
    pub stands : Stands (with_next (Ending (outcome.Received item)) (room_made ends old.standing))

  pub record WaitsForItem : Type 0 where
    pub calls : Calls size old.queue new.queue
    pub same : state_of new.queue.seat ≡ state_of old.queue.seat
    pub waits : WaitsToTake size (ticket_in (state_of old.queue.seat)) old.queue.seat new.queue.seat
    pub stands : Stands old.standing

  -- after a claim that found no item: the channel is drained, and the call is over; or it is refused
  pub data ChecksEmpty : Type 0 where
    found_drained : ChecksDrained size true old.queue new.queue → Stands (with_next (Ending outcome.Drained) (checked ends true old.standing)) → ChecksEmpty
    found_none : ChecksDrained size false old.queue new.queue → Stands (with_next (refused_next old.standing Receive) (checked ends false old.standing)) → ChecksEmpty

  -- the second test of a sender: it finds the queue full and open, and falls asleep; or not
  pub data TestsRoom (x : T) : Type 0 where
    sender_sleeps : (upper : ℤ) → AddsNote size (AsSender FallsAsleep) old.queue new.queue → HasNoRoom size upper new.queue.seat.seen → Stands (with_next (Sleeping (Send x)) old.standing) → TestsRoom x
    room_came : AddsNoNote size old.queue new.queue → HasRoom size new.queue.seat.seen ⊎ Has Close new.queue.seat.seen → Stands (with_next (TakingBack (Send x)) old.standing) → TestsRoom x

  -- the second test of a receiver: it finds no item, or one
  pub data TestsItem : Type 0 where
    no_item_yet : (lower : ℤ) → AddsNote size (AsReceiver FindsNoItem) old.queue new.queue → HasNoItem lower new.queue.seat.seen → Stands (with_next TestingDrained old.standing) → TestsItem
    item_came : AddsNoNote size old.queue new.queue → HasItem new.queue.seat.seen → Stands (with_next (TakingBack Receive) old.standing) → TestsItem

  -- the rest of it: the channel is not drained, and the receiver falls asleep; or it is
  pub data TestsDrained : Type 0 where
    receiver_sleeps : AddsNote size (AsReceiver FallsAsleep) old.queue new.queue → (IsDrained new.queue.seat.seen → ⊥) → Stands (with_next (Sleeping Receive) old.standing) → TestsDrained
    drained_meanwhile : AddsNoNote size old.queue new.queue → IsDrained new.queue.seat.seen → Stands (with_next (TakingBack Receive) old.standing) → TestsDrained

  -- the own bit was set, and is clear now; or another end has cleared it. The call claims again
  pub record ClearsOwn (w : Wish T) : Type 0 where
    pub was_set : Bool
    pub takes : TakesBit size (role_of w) was_set old.queue new.queue
    pub stands : Stands (with_next (Claiming w) old.standing)

  -- the own bit is clear: another end has woken this one
  pub record FindsWake (w : Wish T) : Type 0 where
    pub signs : AddsNote size (as_role (role_of w) IsWoken) old.queue new.queue
    pub stands : Stands (with_next (Claiming w) old.standing)

  -- a call that sleeps is given up: it takes its bit back and is over, or it had been woken and claims again
  pub record TakesOwn (w : Wish T) : Type 0 where
    pub signs : AddsNote size (as_role (role_of w) TakesBack) old.queue new.queue
    pub stands : Stands (with_next Idle old.standing)

  abbrev pub GivesUpSleep : Wish T → Option (Wish T) → Type 0
  GivesUpSleep w None = FindsWake w
  GivesUpSleep w (Some v) = (v ≡ w) × TakesOwn w

  -- nothing but the standing changes
  pub record OnlyStands (s : CallStanding T) : Type 0 where
    pub same : new.queue ≡ old.queue
    pub stands : Stands s

  -- what it is to give up a call that sleeps, or a try that would have to
  abbrev pub GivesUpAt : Next T → Option (Wish T) → Type 0
  GivesUpAt (Sleeping w) r = GivesUpSleep w r
  GivesUpAt (Refused w) (Some v) = (v ≡ w) × OnlyStands (with_next Idle old.standing)
  GivesUpAt _ _ = ⊥

  -- a load finds the own bit still set: nobody has woken this end
  pub record FindsBitSet (w : Wish T) : Type 0 where
    pub signs : AddsNote size (as_role (role_of w) (FindsBit old.queue.seat.name true)) old.queue new.queue
    pub stands : Stands old.standing

  pub record ShutsQueue : Type 0 where
    pub was_open : Bool
    pub calls : Calls size old.queue new.queue
    pub idle : state_of new.queue.seat ≡ at.Idle
    pub shuts : ShutsAs size was_open old.queue.seat new.queue.seat
    pub stands : Stands (with_next (Ending (if was_open then outcome.Closed else outcome.WasClosed)) (room_made ends old.standing))

  pub record SetsBit (w : Wish T) : Type 0 where
    pub signs : AddsNote size (as_role (role_of w) Registers) old.queue new.queue
    pub stands : Stands (with_next (Testing w) old.standing)

  -- the step by what comes next, once nothing is owed
  abbrev pub MovesNext : Next T → ChannelStep T → Type 0
  MovesNext (Claiming (Send x)) GoesOn = ClaimsRoom x
  MovesNext (Claiming Receive) GoesOn = ClaimsItem
  MovesNext Inserting GoesOn = FillsCell
  MovesNext Inserting NotYet = WaitsForRoom
  MovesNext Deleting GoesOn = TakesItem
  MovesNext Deleting NotYet = WaitsForItem
  MovesNext Checking GoesOn = ChecksEmpty
  MovesNext (Registering w) GoesOn = SetsBit w
  MovesNext (Testing (Send x)) GoesOn = TestsRoom x
  MovesNext (Testing Receive) GoesOn = TestsItem
  MovesNext TestingDrained GoesOn = TestsDrained
  MovesNext (TakingBack w) GoesOn = ClearsOwn w
  MovesNext (Sleeping w) GoesOn = FindsWake w
  MovesNext (Sleeping w) Sleeps = FindsBitSet w
  MovesNext (Refusing w) Sleeps = OnlyStands (with_next (Refused w) old.standing)
  MovesNext (Refused w) GoesOn = OnlyStands (with_next (Claiming w) old.standing)
  MovesNext Shutting GoesOn = ShutsQueue
  MovesNext (Ending o) (Ends p) = (p ≡ o) × OnlyStands (with_next Idle old.standing)
  MovesNext _ _ = ⊥

  pub record PaysCheck : Type 0 where
    pub drained : Bool
    pub checks : ChecksDrained size drained old.queue new.queue
    pub stands : Stands (checked ends drained old.standing)

  abbrev pub ChecksOnce : ChannelStep T → Type 0
  ChecksOnce GoesOn = PaysCheck
  ChecksOnce _ = ⊥

  -- debts come first
  abbrev pub MovesBy : Debt → ChannelStep T → Type 0
  MovesBy (Look role) s = LooksOnce ends size role (looks_for role old.standing) old new (looks_for role old.standing).found s
  MovesBy Check s = ChecksOnce s
  MovesBy None_owed s = MovesNext old.standing.next s

-- what a step tells callers outside this crate
abbrev pub step_of : {T : Type 0} → Progress → ChannelStep T
step_of progress.GoesOn = GoesOn
step_of progress.NotYet = NotYet
step_of progress.Sleeps = Sleeps
step_of (progress.Wakes wake) = Wakes wake.number

-- nothing is owed, and only the outcome of the call is left to return
abbrev pub IsDone : {T : Type 0} → CallStanding T → Type 0
IsDone {T} s = (first_debt s ≡ None_owed) × (o : Outcome T) × (s.next ≡ Ending o)

-- one step of a call
abbrev pub Moves : {T : Type 0} → Channel T → ChannelSeat T → ChannelSeat T → ChannelStep T → Type 0
Moves c old new s = MovesBy c old new (first_debt old.standing) s
