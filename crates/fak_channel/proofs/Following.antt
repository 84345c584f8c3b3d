-- The state of a seat after each step of a call, and what a call keeps: whether it is a try.
use Rattle.std.proofs.Common.{◌≡◌, ◌≢◌, ℕ, Bool, true, false, refl, ap, sym, ◌∙◌, subst, Option, Some, None, if◌then◌else◌}
use Rattle.fak_queue.specs.declared.role.Role.{Role}
use Rattle.fak_queue.specs.declared.role.Role.TheVariants.{Sender, Receiver}
use Rattle.fak_channel.specs.declared.channel.Channel.{Channel}
use Rattle.fak_channel.specs.declared.seat.ChannelSeat.{ChannelSeat}
use Rattle.fak_channel.specs.declared.standing.CallStanding.{CallStanding}
use Rattle.fak_channel.specs.declared.standing.ChannelState.TheVariants as state
use Rattle.fak_channel.specs.declared.standing.ChannelStep.{ChannelStep}
use Rattle.fak_channel.specs.declared.standing.ChannelStep.TheVariants.{GoesOn, NotYet, Sleeps, Wakes, Ends}
use Rattle.fak_channel.specs.declared.standing.Next.{Next}
use Rattle.fak_channel.specs.declared.standing.Next.TheVariants.{Idle, Claiming, Inserting, Deleting, Checking, Registering, Testing, TestingDrained, TakingBack, Sleeping, Refusing, Refused, Shutting, Ending}
use Rattle.fak_channel.specs.declared.standing.Wish.{Wish}
use Rattle.fak_channel.specs.declared.standing.Wish.TheVariants.{Send, Receive}
use Rattle.fak_channel.specs.Standings.{IsInCall, IsAsleep, call_state}
use Rattle.fak_channel.specs.Moves.{Look, Check, None_owed, looks_for, refused_next, checked, LoadsWord, passes, goes_round, finds, ClearsBit, LooksOnce, ClaimsRoom, room_granted, found_full, found_closed, ClaimsItem, item_granted, found_empty, ChecksEmpty, found_drained, found_none, TestsRoom, sender_sleeps, room_came, TestsItem, no_item_yet, item_came, TestsDrained, receiver_sleeps, drained_meanwhile, MovesNext, ChecksOnce, MovesBy, Moves}
use Rattle.fak_channel.specs.ChannelSteps.{StandsAfter}

pub open_call : {A : Type 0} → state.Open ≡ state.Idle → A
open_call e = absurd (let f : state.Open ≡ state.Idle = e in cc)

pub asleep_call : {A : Type 0} → state.Sleeping ≡ state.Idle → A
asleep_call e = absurd (let f : state.Sleeping ≡ state.Idle = e in cc)

-- a call that sleeps is open
pub asleep_in_call : {T : Type 0} (s : ChannelSeat T) → IsAsleep s → IsInCall s
asleep_in_call s asleep = λ idle. asleep_call (sym asleep ∙ idle)

module _ {T : Type 0} (c : Channel T) (old new : ChannelSeat T) where
  abbrev s : CallStanding T
  s = old.standing

  -- the same kind of call, in the state that the step tells
  pub record Follows (r : ChannelStep T) : Type 0 where
    pub tries : new.standing.tries ≡ old.standing.tries
    pub after : StandsAfter new r

  -- it goes on
  goes : (after : CallStanding T) → new.standing ≡ after → after.tries ≡ s.tries → call_state after.next ≢ state.Idle → Follows GoesOn
  goes after stands tries next = record { tries = ap (λ (t : CallStanding T). t.tries) stands ∙ tries; after = subst (λ (t : CallStanding T). call_state t.next ≢ state.Idle) (sym stands) next }

  waits : new.standing ≡ s → IsInCall old → Follows NotYet
  waits stands next = record { tries = ap (λ (t : CallStanding T). t.tries) stands; after = subst (λ (t : CallStanding T). call_state t.next ≢ state.Idle) (sym stands) next }

  sleeps : (after : CallStanding T) → new.standing ≡ after → after.tries ≡ s.tries → call_state after.next ≡ state.Sleeping → Follows Sleeps
  sleeps after stands tries next = record { tries = ap (λ (t : CallStanding T). t.tries) stands ∙ tries; after = subst (λ (t : CallStanding T). call_state t.next ≡ state.Sleeping) (sym stands) next }

  wakes : (number : ℕ) (after : CallStanding T) → new.standing ≡ after → after.tries ≡ s.tries → call_state after.next ≢ state.Idle → Follows (Wakes number)
  wakes number after stands tries next = record { tries = ap (λ (t : CallStanding T). t.tries) stands ∙ tries; after = subst (λ (t : CallStanding T). call_state t.next ≢ state.Idle) (sym stands) next }

  look_follows : {ends size : ℕ} (role : Role) → IsInCall old → LoadsWord ends size role (looks_for role s) old new → Follows GoesOn
  look_follows Sender in_call (passes l stands) = goes _ stands refl in_call
  look_follows Sender in_call (goes_round found l some at stands) = goes _ stands refl in_call
  look_follows Sender in_call (finds k found l at stands) = goes _ stands refl in_call
  look_follows Receiver in_call (passes l stands) = goes _ stands refl in_call
  look_follows Receiver in_call (goes_round found l some at stands) = goes _ stands refl in_call
  look_follows Receiver in_call (finds k found l at stands) = goes _ stands refl in_call

  clear_follows : (ends size : ℕ) (role : Role) (k : ℕ) (r : ChannelStep T) → IsInCall old → ClearsBit ends size role (looks_for role s) old new k r → Follows r
  clear_follows ends size Sender k GoesOn in_call m = goes _ m.1 refl in_call
  clear_follows ends size Receiver k GoesOn in_call m = goes _ m.1 refl in_call
  clear_follows ends size role k NotYet in_call m = absurd m
  clear_follows ends size role k Sleeps in_call m = absurd m
  clear_follows ends size Sender k (Wakes number) in_call m = wakes number _ m.2 refl in_call
  clear_follows ends size Receiver k (Wakes number) in_call m = wakes number _ m.2 refl in_call
  clear_follows ends size role k (Ends o) in_call m = absurd m

  looks_follow : (ends size : ℕ) (role : Role) (found : Option ℕ) (r : ChannelStep T) → IsInCall old → LooksOnce ends size role (looks_for role s) old new found r → Follows r
  looks_follow ends size role None GoesOn in_call m = look_follows role in_call m
  looks_follow ends size role None NotYet in_call m = absurd m
  looks_follow ends size role None Sleeps in_call m = absurd m
  looks_follow ends size role None (Wakes number) in_call m = absurd m
  looks_follow ends size role None (Ends o) in_call m = absurd m
  looks_follow ends size role (Some k) r in_call m = clear_follows ends size role k r in_call m

  check_follows : (r : ChannelStep T) → IsInCall old → ChecksOnce c old new r → Follows r
  check_follows GoesOn in_call m = goes (checked c.ends m.drained s) m.stands refl in_call
  check_follows NotYet in_call m = absurd m
  check_follows Sleeps in_call m = absurd m
  check_follows (Wakes number) in_call m = absurd m
  check_follows (Ends o) in_call m = absurd m

  -- a refused call either is a try or sets its bit
  refused_open : (w : Wish T) → call_state (refused_next s w) ≢ state.Idle
  refused_open w = by s.tries
    where
      by : (tries : Bool) → call_state (if tries then Refusing w else Registering w) ≢ state.Idle
      by true = λ e. open_call e
      by false = λ e. open_call e

  room_follows : (x : T) → ClaimsRoom c old new x → Follows GoesOn
  room_follows x (room_granted k calls at claims stands) = goes _ stands refl (λ e. open_call e)
  room_follows x (found_full upper true was refuses makes stands) = goes _ stands refl (refused_open (Send x))
  room_follows x (found_full upper false was refuses makes stands) = goes _ stands refl (refused_open (Send x))
  room_follows x (found_closed was refuses stands) = goes _ stands refl (λ e. open_call e)

  item_follows : ClaimsItem c old new → Follows GoesOn
  item_follows (item_granted k calls at claims stands) = goes _ stands refl (λ e. open_call e)
  item_follows (found_empty lower true was refuses makes stands) = goes _ stands refl (λ e. open_call e)
  item_follows (found_empty lower false was refuses makes stands) = goes _ stands refl (λ e. open_call e)

  empty_follows : ChecksEmpty c old new → Follows GoesOn
  empty_follows (found_drained l stands) = goes _ stands refl (λ e. open_call e)
  empty_follows (found_none l stands) = goes _ stands refl (refused_open Receive)

  room_test_follows : (x : T) → TestsRoom c old new x → Follows GoesOn
  room_test_follows x (sender_sleeps upper l full stands) = goes _ stands refl (λ e. asleep_call e)
  room_test_follows x (room_came l why stands) = goes _ stands refl (λ e. open_call e)

  item_test_follows : TestsItem c old new → Follows GoesOn
  item_test_follows (no_item_yet lower l empty stands) = goes _ stands refl (λ e. open_call e)
  item_test_follows (item_came l why stands) = goes _ stands refl (λ e. open_call e)

  drained_test_follows : TestsDrained c old new → Follows GoesOn
  drained_test_follows (receiver_sleeps l undrained stands) = goes _ stands refl (λ e. asleep_call e)
  drained_test_follows (drained_meanwhile l why stands) = goes _ stands refl (λ e. open_call e)

  next_follows : (x : Next T) (r : ChannelStep T) → s.next ≡ x → IsInCall old → MovesNext c old new x r → Follows r
  next_follows Idle r is in_call m = absurd m
  next_follows (Claiming (Send x)) GoesOn is in_call m = room_follows x m
  next_follows (Claiming (Send x)) NotYet is in_call m = absurd m
  next_follows (Claiming (Send x)) Sleeps is in_call m = absurd m
  next_follows (Claiming (Send x)) (Wakes k) is in_call m = absurd m
  next_follows (Claiming (Send x)) (Ends p) is in_call m = absurd m
  next_follows (Claiming Receive) GoesOn is in_call m = item_follows m
  next_follows (Claiming Receive) NotYet is in_call m = absurd m
  next_follows (Claiming Receive) Sleeps is in_call m = absurd m
  next_follows (Claiming Receive) (Wakes k) is in_call m = absurd m
  next_follows (Claiming Receive) (Ends p) is in_call m = absurd m
  next_follows Inserting GoesOn is in_call m = goes _ m.stands refl (λ e. open_call e)
  next_follows Inserting NotYet is in_call m = waits m.stands in_call
  next_follows Inserting Sleeps is in_call m = absurd m
  next_follows Inserting (Wakes k) is in_call m = absurd m
  next_follows Inserting (Ends p) is in_call m = absurd m
  next_follows Deleting GoesOn is in_call m = goes _ m.stands refl (λ e. open_call e)
  next_follows Deleting NotYet is in_call m = waits m.stands in_call
  next_follows Deleting Sleeps is in_call m = absurd m
  next_follows Deleting (Wakes k) is in_call m = absurd m
  next_follows Deleting (Ends p) is in_call m = absurd m
  next_follows Checking GoesOn is in_call m = empty_follows m
  next_follows Checking NotYet is in_call m = absurd m
  next_follows Checking Sleeps is in_call m = absurd m
  next_follows Checking (Wakes k) is in_call m = absurd m
  next_follows Checking (Ends p) is in_call m = absurd m
  next_follows (Registering w) GoesOn is in_call m = goes _ m.stands refl (λ e. open_call e)
  next_follows (Registering w) NotYet is in_call m = absurd m
  next_follows (Registering w) Sleeps is in_call m = absurd m
  next_follows (Registering w) (Wakes k) is in_call m = absurd m
  next_follows (Registering w) (Ends p) is in_call m = absurd m
  next_follows (Testing (Send x)) GoesOn is in_call m = room_test_follows x m
  next_follows (Testing (Send x)) NotYet is in_call m = absurd m
  next_follows (Testing (Send x)) Sleeps is in_call m = absurd m
  next_follows (Testing (Send x)) (Wakes k) is in_call m = absurd m
  next_follows (Testing (Send x)) (Ends p) is in_call m = absurd m
  next_follows (Testing Receive) GoesOn is in_call m = item_test_follows m
  next_follows (Testing Receive) NotYet is in_call m = absurd m
  next_follows (Testing Receive) Sleeps is in_call m = absurd m
  next_follows (Testing Receive) (Wakes k) is in_call m = absurd m
  next_follows (Testing Receive) (Ends p) is in_call m = absurd m
  next_follows TestingDrained GoesOn is in_call m = drained_test_follows m
  next_follows TestingDrained NotYet is in_call m = absurd m
  next_follows TestingDrained Sleeps is in_call m = absurd m
  next_follows TestingDrained (Wakes k) is in_call m = absurd m
  next_follows TestingDrained (Ends p) is in_call m = absurd m
  next_follows (TakingBack w) GoesOn is in_call m = goes _ m.stands refl (λ e. open_call e)
  next_follows (TakingBack w) NotYet is in_call m = absurd m
  next_follows (TakingBack w) Sleeps is in_call m = absurd m
  next_follows (TakingBack w) (Wakes k) is in_call m = absurd m
  next_follows (TakingBack w) (Ends p) is in_call m = absurd m
  next_follows (Sleeping w) GoesOn is in_call m = goes _ m.stands refl (λ e. open_call e)
  next_follows (Sleeping w) NotYet is in_call m = absurd m
  next_follows (Sleeping w) Sleeps is in_call m = sleeps s m.stands refl (ap call_state is)
  next_follows (Sleeping w) (Wakes k) is in_call m = absurd m
  next_follows (Sleeping w) (Ends p) is in_call m = absurd m
  next_follows (Refusing w) GoesOn is in_call m = absurd m
  next_follows (Refusing w) NotYet is in_call m = absurd m
  next_follows (Refusing w) Sleeps is in_call m = sleeps _ m.stands refl refl
  next_follows (Refusing w) (Wakes k) is in_call m = absurd m
  next_follows (Refusing w) (Ends p) is in_call m = absurd m
  next_follows (Refused w) GoesOn is in_call m = goes _ m.stands refl (λ e. open_call e)
  next_follows (Refused w) NotYet is in_call m = absurd m
  next_follows (Refused w) Sleeps is in_call m = absurd m
  next_follows (Refused w) (Wakes k) is in_call m = absurd m
  next_follows (Refused w) (Ends p) is in_call m = absurd m
  next_follows Shutting GoesOn is in_call m = goes _ m.stands refl (λ e. open_call e)
  next_follows Shutting NotYet is in_call m = absurd m
  next_follows Shutting Sleeps is in_call m = absurd m
  next_follows Shutting (Wakes k) is in_call m = absurd m
  next_follows Shutting (Ends p) is in_call m = absurd m
  next_follows (Ending o) GoesOn is in_call m = absurd m
  next_follows (Ending o) NotYet is in_call m = absurd m
  next_follows (Ending o) Sleeps is in_call m = absurd m
  next_follows (Ending o) (Wakes k) is in_call m = absurd m
  next_follows (Ending o) (Ends p) is in_call m = record { tries = ap (λ (t : CallStanding T). t.tries) m.1.stands; after = ap (λ (t : CallStanding T). call_state t.next) m.1.stands }

  pub moved_follows : (r : ChannelStep T) → IsInCall old → Moves c old new r → Follows r
  moved_follows r in_call m = by s.senders.is_owed s.receivers.is_owed s.checks refl refl refl m
    where
      by : (a b d : Bool) → s.senders.is_owed ≡ a → s.receivers.is_owed ≡ b → s.checks ≡ d → MovesBy c old new (if a then Look Sender else (if b then Look Receiver else (if d then Check else None_owed))) r → Follows r
      by true b d ea eb ed m = looks_follow c.ends c.queue.size Sender s.senders.found r in_call m
      by false true d ea eb ed m = looks_follow c.ends c.queue.size Receiver s.receivers.found r in_call m
      by false false true ea eb ed m = check_follows r in_call m
      by false false false ea eb ed m = next_follows s.next r refl in_call m
