-- Steps of a call, one after another.
use Rattle.std.proofs.Common.{◌≡◌, true, false, refl, sym, ◌∙◌, Some, None, ℕ}
use Rattle.fak_channel_core.specs.SleeperMoves.{Account}
use Rattle.fak_queue.specs.SleeperSeats.{SleeperInfo, account_of_seat}
use Rattle.fak_channel.specs.declared.standing.CallStanding.{CallStanding}
use Rattle.fak_channel.specs.declared.channel.Channel.{Channel}
use Rattle.fak_channel.specs.declared.progress.Stop.TheVariants as stop
use Rattle.fak_channel.specs.declared.seat.ChannelSeat.{ChannelSeat}
use Rattle.fak_channel.specs.declared.standing.ChannelStep.TheVariants.{GoesOn, NotYet, Sleeps, Wakes, Ends}
use Rattle.fak_channel.specs.declared.standing.Next.{Next}
use Rattle.fak_channel.specs.declared.standing.Next.TheVariants.{Idle, Claiming, Inserting, Deleting, Checking, Registering, Testing, TestingDrained, TakingBack, Sleeping, Refusing, Refused, Shutting, Ending}
use Rattle.fak_channel.specs.declared.standing.Outcome.{Outcome}
use Rattle.fak_channel.specs.declared.standing.Wish.{Wish}
use Rattle.fak_channel.specs.Standings.{IsStepSeatOf, IsInCall, IsAsleep, IsBetweenCalls, StandsSo, role_of}
use Rattle.fak_channel.specs.Channels.{HasTakenBack}
use Rattle.fak_channel.specs.ChannelSteps.{Asked, CallSince, RefusedSince, TriedSince, EndsAll, RefusesAll, WakesNone, StopsAt, GivesUp, GivesUpFrom, HasGoneOn, none, more}
use Rattle.fak_channel.specs.Moves.{Moves}
use Rattle.fak_channel.proofs.CallSteps.{moved_since}
use Rattle.fak_channel.proofs.Following.{moved_follows, asleep_in_call}
use Rattle.fak_channel.proofs.Transitions.{moved_stands}

-- a call that goes on: whatever was asked, it has come further
pub record Continues {T : Type 0} (c : Channel T) (old now : ChannelSeat T) : Type 0 where
  pub stands : IsStepSeatOf c now
  pub in_call : IsInCall now
  pub tries : now.standing.tries ≡ old.standing.tries
  pub since : (asked : Asked T) (began : ChannelSeat T) → CallSince c.queue.size asked began old → CallSince c.queue.size asked began now

-- the same of one that sleeps
pub record Pauses {T : Type 0} (c : Channel T) (old now : ChannelSeat T) : Type 0 where
  pub continues : Continues c old now
  pub asleep : IsAsleep now

module _ {T : Type 0} (c : Channel T) where
  pub begins_run : (old : ChannelSeat T) → IsStepSeatOf c old → IsInCall old → Continues c old old
  begins_run old stands in_call = record { stands = stands; in_call = in_call; tries = refl; since = λ asked began since. since }

  module _ (old mid new : ChannelSeat T) (k : Continues c old mid) where
    pub goes_on : Moves c mid new GoesOn → Continues c old new
    goes_on m =
        let f = moved_follows c mid new GoesOn k.in_call m in
        record { stands = moved_stands c mid new k.stands GoesOn m; in_call = f.after; tries = f.tries ∙ k.tries; since = λ asked began since. moved_since c mid new k.stands GoesOn m asked began (k.since asked began since) }

    pub waits_on : Moves c mid new NotYet → Continues c old new
    waits_on m =
        let f = moved_follows c mid new NotYet k.in_call m in
        record { stands = moved_stands c mid new k.stands NotYet m; in_call = f.after; tries = f.tries ∙ k.tries; since = λ asked began since. moved_since c mid new k.stands NotYet m asked began (k.since asked began since) }

    pub wakes_on : (number : ℕ) → Moves c mid new (Wakes number) → Continues c old new
    wakes_on number m =
        let f = moved_follows c mid new (Wakes number) k.in_call m in
        record { stands = moved_stands c mid new k.stands (Wakes number) m; in_call = f.after; tries = f.tries ∙ k.tries; since = λ asked began since. moved_since c mid new k.stands (Wakes number) m asked began (k.since asked began since) }

    pub sleeps_on : Moves c mid new Sleeps → Pauses c old new
    sleeps_on m =
        let f = moved_follows c mid new Sleeps k.in_call m in
        record {
          continues = record { stands = moved_stands c mid new k.stands Sleeps m; in_call = asleep_in_call new f.after; tries = f.tries ∙ k.tries; since = λ asked began since. moved_since c mid new k.stands Sleeps m asked began (k.since asked began since) };
          asleep = f.after;
        }

    pub ended_stands : (o : Outcome T) → Moves c mid new (Ends o) → IsStepSeatOf c new
    ended_stands o m = moved_stands c mid new k.stands (Ends o) m

    pub ended_idle : (o : Outcome T) → Moves c mid new (Ends o) → IsBetweenCalls new
    ended_idle o m = (moved_follows c mid new (Ends o) k.in_call m).after

    pub ended_tries : (o : Outcome T) → Moves c mid new (Ends o) → new.standing.tries ≡ old.standing.tries
    ended_tries o m = (moved_follows c mid new (Ends o) k.in_call m).tries ∙ k.tries

    pub ended_all : (o : Outcome T) → Moves c mid new (Ends o) → EndsAll c.queue.size old new o
    ended_all o m = λ asked began since. moved_since c mid new k.stands (Ends o) m asked began (k.since asked began since)

  module _ (old mid last : ChannelSeat T) (k : Continues c old mid) where
    -- ---- runs, one after another

    pub stopped_asleep : IsStepSeatOf c last → last.standing.tries ≡ mid.standing.tries → StopsAt c.queue.size mid last stop.Sleeps → Pauses c old last
    stopped_asleep stands tries stops = record {
      continues = record { stands = stands; in_call = asleep_in_call last stops.0; tries = tries ∙ k.tries; since = λ asked began since. stops.1 asked began (k.since asked began since) };
      asleep = stops.0;
    }

    pub stopped_ended : (o : Outcome T) → StopsAt c.queue.size mid last (stop.Ends o) → EndsAll c.queue.size old last o
    stopped_ended o stops = λ asked began since. stops.1 asked began (k.since asked began since)

    pub not_given_up : IsStepSeatOf c last → IsInCall last → last.standing.tries ≡ mid.standing.tries → GivesUp c.queue.size mid last None → Continues c old last
    not_given_up stands in_call tries gives = record { stands = stands; in_call = in_call; tries = tries ∙ k.tries; since = λ asked began since. gives asked began (k.since asked began since) }

  -- ---- calls that are given up

  -- of a try each claim was refused
  tried : (x : Next T) (s : CallStanding T) (q : SleeperInfo T) (g : Account) → s.tries ≡ true → StandsSo x s q g → (asked : Asked T) (began last : ChannelSeat T) (w : Wish T) → GivesUpFrom c.queue.size x asked began last w → TriedSince c.queue.size asked began w last
  tried Idle s q g is_try so asked began last w h = absurd h
  tried (Claiming v) s q g is_try so asked began last w h = absurd h
  tried Inserting s q g is_try so asked began last w h = absurd h
  tried Deleting s q g is_try so asked began last w h = absurd h
  tried Checking s q g is_try so asked began last w h = absurd h
  tried (Registering v) s q g is_try so asked began last w h = absurd h
  tried (Testing v) s q g is_try so asked began last w h = absurd h
  tried TestingDrained s q g is_try so asked began last w h = absurd h
  tried (TakingBack v) s q g is_try so asked began last w h = absurd h
  tried (Sleeping v) s q g is_try so asked began last w h = absurd (let f : true ≡ false = sym is_try ∙ so.tries in cc)
  tried (Refusing v) s q g is_try so asked began last w h = absurd h
  tried (Refused v) s q g is_try so asked began last w h = h
  tried Shutting s q g is_try so asked began last w h = absurd h
  tried (Ending o) s q g is_try so asked began last w h = absurd h

  pub refused_all : (old mid last : ChannelSeat T) (w : Wish T) → Continues c old mid → old.standing.tries ≡ true → GivesUp c.queue.size mid last (Some w) → RefusesAll c.queue.size old last w
  refused_all old mid last w k is_try gives = λ asked began since. tried mid.standing.next mid.standing mid.queue (account_of_seat mid.queue) (k.tries ∙ is_try) k.stands.next asked began last w (gives asked began (k.since asked began since))

  -- one that is no try has slept
  slept : (x : Next T) (s : CallStanding T) (q : SleeperInfo T) (g : Account) → s.tries ≡ false → StandsSo x s q g → (asked : Asked T) (began last : ChannelSeat T) (w : Wish T) → GivesUpFrom c.queue.size x asked began last w → RefusedSince c.queue.size asked began w last × HasTakenBack (role_of w) began.queue last.queue
  slept Idle s q g no_try so asked began last w h = absurd h
  slept (Claiming v) s q g no_try so asked began last w h = absurd h
  slept Inserting s q g no_try so asked began last w h = absurd h
  slept Deleting s q g no_try so asked began last w h = absurd h
  slept Checking s q g no_try so asked began last w h = absurd h
  slept (Registering v) s q g no_try so asked began last w h = absurd h
  slept (Testing v) s q g no_try so asked began last w h = absurd h
  slept TestingDrained s q g no_try so asked began last w h = absurd h
  slept (TakingBack v) s q g no_try so asked began last w h = absurd h
  slept (Sleeping v) s q g no_try so asked began last w h = h
  slept (Refusing v) s q g no_try so asked began last w h = absurd h
  slept (Refused v) s q g no_try so asked began last w h = absurd (let f : true ≡ false = sym so.tries ∙ no_try in cc)
  slept Shutting s q g no_try so asked began last w h = absurd h
  slept (Ending o) s q g no_try so asked began last w h = absurd h

  pub wakes_none : (old mid last : ChannelSeat T) (w : Wish T) → Continues c old mid → old.standing.tries ≡ false → GivesUp c.queue.size mid last (Some w) → WakesNone c.queue.size old last w
  wakes_none old mid last w k no_try gives = λ asked began since. slept mid.standing.next mid.standing mid.queue (account_of_seat mid.queue) (k.tries ∙ no_try) k.stands.next asked began last w (gives asked began (k.since asked began since))

-- ---- steps that each go on

pub gone_on : {T : Type 0} (c : Channel T) (old : ChannelSeat T) (taken : ℕ) (now : ChannelSeat T) → IsStepSeatOf c old → IsInCall old → HasGoneOn c old taken now → Continues c old now
gone_on c old _ _ stands in_call none = begins_run c old stands in_call
gone_on c old _ _ stands in_call (more taken mid now steps last) = goes_on c old mid now (gone_on c old taken mid stands in_call steps) last
