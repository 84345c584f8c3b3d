-- How a call is given up.
use Rattle.std.proofs.Common.{◌≡◌, ap, sym, ◌∙◌, subst, Option, Some, None, MatchOption}
use Rattle.fak_queue.specs.SleeperSeats.{account_of_seat}
use Rattle.fak_channel.specs.declared.channel.Channel.{Channel}
use Rattle.fak_channel.specs.declared.seat.ChannelSeat.{ChannelSeat}
use Rattle.fak_channel.specs.declared.standing.CallStanding.{CallStanding}
use Rattle.fak_channel.specs.declared.standing.ChannelStep.TheVariants.{GoesOn}
use Rattle.fak_channel.specs.declared.standing.Next.{Next}
use Rattle.fak_channel.specs.declared.standing.Next.TheVariants.{Idle, Sleeping, Refused}
use Rattle.fak_channel.specs.declared.standing.Wish.{Wish}
use Rattle.fak_channel.specs.Channels.{HasTakenBack, HasFallenAsleep}
use Rattle.fak_channel.specs.ChannelSteps.{Asked, RefusedSince, SinceAt, GivesUp, GivesUpFrom}
use Rattle.fak_channel.specs.Moves.{FindsWake, TakesOwn, GivesUpSleep, OnlyStands, MovesNext, Moves, at_next, with_next}
use Rattle.fak_channel.specs.Standings.{IsStepSeatOf, IsInCall, IsBetweenCalls, StandsSo, call_state, role_of}
use Rattle.fak_channel.proofs.CallSteps.{moved_since, only_tried, refused_on, taken_back}
use Rattle.fak_channel.proofs.Following.{moved_follows, asleep_call}
use Rattle.fak_channel.proofs.Transitions.{moved_stands, took_stands, refused_try_stands, next_moves}

-- what a call that is given up ensures
pub record GaveUp {T : Type 0} (c : Channel T) (old new : ChannelSeat T) (r : Option (Wish T)) : Type 0 where
  pub stands : IsStepSeatOf c new
  pub after : MatchOption r (IsInCall new) (λ _. IsBetweenCalls new)
  pub tries : new.standing.tries ≡ old.standing.tries
  pub call : GivesUp c.queue.size old new r

module _ {T : Type 0} (c : Channel T) (old new : ChannelSeat T) (S : IsStepSeatOf c old) (w : Wish T) where
  -- another end had woken it
  woken : old.standing.next ≡ Sleeping w → FindsWake c old new w → GaveUp c old new None
  woken is m =
      let so : StandsSo (Sleeping w) old.standing old.queue (account_of_seat old.queue) = subst (λ (x : Next T). StandsSo x old.standing old.queue (account_of_seat old.queue)) is S.next in
      let moves : Moves c old new GoesOn = next_moves c old new S GoesOn so.stands.none (subst (λ (x : Next T). MovesNext c old new x GoesOn) (sym is) m) in
      let in_call : IsInCall old = λ idle. asleep_call (sym (ap call_state is) ∙ idle) in
      let follows = moved_follows c old new GoesOn in_call moves in
      record { stands = moved_stands c old new S GoesOn moves; after = follows.after; tries = follows.tries; call = λ asked began since. moved_since c old new S GoesOn moves asked began since }

  -- it takes its bit back
  took : old.standing.next ≡ Sleeping w → TakesOwn c old new w → GaveUp c old new (Some w)
  took is m = record {
    stands = took_stands c old new S w is m;
    after = ap (λ (t : CallStanding T). call_state t.next) m.stands;
    tries = ap (λ (t : CallStanding T). t.tries) m.stands;
    call = λ asked began since. subst (λ (x : Next T). GivesUpFrom c.queue.size x asked began new w) (sym is) (by asked began (subst (λ (x : Next T). SinceAt c.queue.size x asked began old) is since.since));
  }
    where
      by : (asked : Asked T) (began : ChannelSeat T) → RefusedSince c.queue.size asked began w old × HasFallenAsleep (role_of w) began.queue old.queue → RefusedSince c.queue.size asked began w new × HasTakenBack (role_of w) began.queue new.queue
      by asked began h = (refused_on c.queue.size asked began old new m.signs.makes w m.signs.left h.0, taken_back (role_of w) began.queue old.queue new.queue m.signs h.1)

  pub gave_up_sleep : (r : Option (Wish T)) → old.standing.next ≡ Sleeping w → GivesUpSleep c old new w r → GaveUp c old new r
  gave_up_sleep None is m = woken is m
  gave_up_sleep (Some v) is m = subst (λ (u : Wish T). GaveUp c old new (Some u)) (sym m.0) (took is m.1)

  -- a try that was refused
  pub gave_up_try : old.standing.next ≡ Refused w → OnlyStands c old new (with_next Idle old.standing) → GaveUp c old new (Some w)
  gave_up_try is m = record {
    stands = refused_try_stands c old new S w is m;
    after = ap (λ (t : CallStanding T). call_state t.next) m.stands;
    tries = ap (λ (t : CallStanding T). t.tries) m.stands;
    call = λ asked began since.
        subst (λ (x : Next T). GivesUpFrom c.queue.size x asked began new w) (sym is) (only_tried c asked began old new since m.same w (subst (λ (x : Next T). SinceAt c.queue.size x asked began old) is since.since));
  }

  -- the seat whose next was taken out
  pub sleep_at : old.standing.next ≡ Sleeping w → (r : Option (Wish T)) → GivesUpSleep c (at_next (Sleeping w) old) new w r → GivesUpSleep c old new w r
  sleep_at is r m = subst (λ (x : Next T). GivesUpSleep c (at_next x old) new w r) (sym is) m
