-- An end that waits owes nothing.
use Rattle.std.proofs.Common.{◌≡◌, ◌⊎◌, ℕ, true, ap, ◌∙◌, subst, inl, inr, Option, None, Some, ◌∷◌}
use Rattle.atomic_table.specs.Table.{State}
use Rattle.fak_model.specs.declared.note.Sign.TheVariants.{FindsBit}
use Rattle.fak_channel_core.specs.SleeperSides.{Awake, Asleep}
use Rattle.fak_channel_core.specs.SleeperMoves.{Account}
use Rattle.fak_queue.specs.declared.limits.QueueLimits.{QueueLimits}
use Rattle.fak_queue.specs.declared.role.Role.{Role}
use Rattle.fak_queue.specs.declared.role.Role.TheVariants.{Sender, Receiver}
use Rattle.fak_queue.specs.SeatsSeen.{SeatSleeps, SeatRests, AllRest}
use Rattle.fak_queue.specs.Shown.{QueueView}
use Rattle.fak_queue.specs.SleeperRest.{OwesNothing}
use Rattle.fak_queue.specs.SleeperSeats.{SleeperInfo, account_of_seat, note_of}
use Rattle.fak_queue.specs.Sleepers.{as_role, duty_as, is_set}
use Rattle.fak_channel.specs.declared.channel.Channel.{Channel}
use Rattle.fak_channel.specs.declared.seat.ChannelSeat.{ChannelSeat}
use Rattle.fak_channel.specs.declared.standing.CallStanding.{CallStanding}
use Rattle.fak_channel.specs.declared.standing.ChannelState.TheVariants as state
use Rattle.fak_channel.specs.declared.standing.ChannelStep.TheVariants.{Sleeps}
use Rattle.fak_channel.specs.declared.standing.Next.{Next}
use Rattle.fak_channel.specs.declared.standing.Next.TheVariants.{Idle, Claiming, Inserting, Deleting, Checking, Registering, Testing, TestingDrained, TakingBack, Sleeping, Refusing, Refused, Shutting, Ending}
use Rattle.fak_channel.specs.declared.standing.Wish.{Wish}
use Rattle.fak_channel.specs.declared.standing.Wish.TheVariants.{Send, Receive}
use Rattle.fak_channel.specs.EndsAtRest.{RestsAs, EndSleeps, EndRests, AllEndsRest}
use Rattle.fak_channel.specs.Moves.{Debt, Look, Check, None_owed, LooksOnce, MovesNext, MovesBy, Moves, first_debt, looks_for}
use Rattle.fak_channel.specs.Standings.{IsStepSeatOf, IsBetweenCalls, StandsSo, StageFor, OwesNone, ChecksIf, role_of, call_state}
use Rattle.fak_channel.proofs.Following.{open_call, asleep_call}

-- the state of a seat between two calls
pub idle_so : {T : Type 0} (x : Next T) (s : CallStanding T) (q : SleeperInfo T) (g : Account) → call_state x ≡ state.Idle → StandsSo x s q g → StandsSo Idle s q g
idle_so Idle s q g is h = h
idle_so (Claiming w) s q g is h = open_call is
idle_so Inserting s q g is h = open_call is
idle_so Deleting s q g is h = open_call is
idle_so Checking s q g is h = open_call is
idle_so (Registering w) s q g is h = open_call is
idle_so (Testing w) s q g is h = open_call is
idle_so TestingDrained s q g is h = open_call is
idle_so (TakingBack w) s q g is h = open_call is
idle_so (Sleeping w) s q g is h = asleep_call is
idle_so (Refusing w) s q g is h = open_call is
idle_so (Refused w) s q g is h = asleep_call is
idle_so Shutting s q g is h = open_call is
idle_so (Ending o) s q g is h = open_call is

module _ {T : Type 0} (c : Channel T) (e : ChannelSeat T) (S : IsStepSeatOf c e) where
  owes_nothing : OwesNone e.standing → ChecksIf e.standing (account_of_seat e.queue) → OwesNothing (account_of_seat e.queue)
  owes_nothing none checks = record { for_senders = S.pays.senders.owed none.senders; for_receivers = S.pays.receivers.owed none.receivers; checks = checks none.checks }

  pub idle_rests : (w : Wish T) → IsBetweenCalls e → RestsAs w Awake e
  idle_rests w is = record { idle = so.queue; owes = owes_nothing so.none so.checks; stages = by w }
    where
      so : StandsSo Idle e.standing e.queue (account_of_seat e.queue)
      so = idle_so e.standing.next e.standing e.queue (account_of_seat e.queue) is S.next

      by : (w : Wish T) → StageFor w Awake (account_of_seat e.queue)
      by (Send x) = so.stages
      by Receive = so.stages

  pub asleep_rests : (w : Wish T) → e.standing.next ≡ Sleeping w → RestsAs w Asleep e
  asleep_rests w is =
      let so : StandsSo (Sleeping w) e.standing e.queue (account_of_seat e.queue) = subst (λ (x : Next T). StandsSo x e.standing e.queue (account_of_seat e.queue)) is S.next in
      record { idle = so.stands.queue.idle; owes = owes_nothing so.stands.none so.stands.checks; stages = so.stands.stages }

-- ---- in the table of a running channel

module _ {T : Type 0} (c : Channel T) (key : QueueLimits) (s : State (Option T) (QueueView T)) where
  awake_each : (e : ChannelSeat T) → RestsAs Receive Awake e → (role : Role) → ((duty_as role (account_of_seat e.queue)).stage ≡ Awake) ⊎ SeatSleeps key s role e.queue
  awake_each e r Sender = inl r.stages.sender
  awake_each e r Receiver = inl r.stages.receiver

  asleep_each : (e : ChannelSeat T) (w : Wish T) → RestsAs w Asleep e → is_set (role_of w) key.size s.words e.queue.seat.name ≡ true → (role : Role) → ((duty_as role (account_of_seat e.queue)).stage ≡ Awake) ⊎ SeatSleeps key s role e.queue
  asleep_each e (Send x) r bit Sender = inr (r.stages.sender, bit)
  asleep_each e (Send x) r bit Receiver = inl r.stages.receiver
  asleep_each e Receive r bit Sender = inl r.stages.sender
  asleep_each e Receive r bit Receiver = inr (r.stages.receiver, bit)

  seat_rests : (n : ℕ) (e : ChannelSeat T) → EndRests c key s n e → SeatRests key s e.queue
  seat_rests n e r = by r.waits
    where
      by : IsBetweenCalls e ⊎ EndSleeps key s e → SeatRests key s e.queue
      by (inl is) = (let i = idle_rests c e r.stands Receive is in record { seen = r.seen; idle = i.idle; owes = i.owes; each = awake_each e i })
      by (inr sleeps) = (let i = asleep_rests c e r.stands sleeps.wish sleeps.next in record { seen = r.seen; idle = i.idle; owes = i.owes; each = asleep_each e sleeps.wish i sleeps.bit })

  pub all_rest : (ends : ℕ → ChannelSeat T) → AllEndsRest c key s ends → AllRest key s (λ n. (ends n).queue)
  all_rest ends all n below = let r = all n below in (r.name, seat_rests n (ends n) r)

  pub receiver_sleeps_as : (e : ChannelSeat T) → IsStepSeatOf c e → (sleeps : EndSleeps key s e) → sleeps.wish ≡ Receive → SeatSleeps key s Receiver e.queue
  receiver_sleeps_as e S sleeps is =
      let r : RestsAs Receive Asleep e = asleep_rests c e S Receive (sleeps.next ∙ ap Sleeping is) in
      (r.stages.receiver, subst (λ (w : Wish T). is_set (role_of w) key.size s.words e.queue.seat.name ≡ true) is sleeps.bit)

  pub sender_sleeps_as : (e : ChannelSeat T) → IsStepSeatOf c e → (sleeps : EndSleeps key s e) → (x : T) → sleeps.wish ≡ Send x → SeatSleeps key s Sender e.queue
  sender_sleeps_as e S sleeps x is =
      let r : RestsAs (Send x) Asleep e = asleep_rests c e S (Send x) (sleeps.next ∙ ap Sleeping is) in
      (r.stages.sender, subst (λ (w : Wish T). is_set (role_of w) key.size s.words e.queue.seat.name ≡ true) is sleeps.bit)

-- a step on which a call sleeps on is none of what its end owes
module _ {T : Type 0} (c : Channel T) (old new : ChannelSeat T) where
  no_look : (size : ℕ) (role : Role) (found : Option ℕ) → LooksOnce c.ends size role (looks_for role old.standing) old new found Sleeps → ⊥
  no_look size role None m = m
  no_look size role (Some k) m = m

  by_next : (d : Debt) → MovesBy c old new d Sleeps → MovesNext c old new old.standing.next Sleeps
  by_next (Look role) m = absurd (no_look c.queue.size role (looks_for role old.standing).found m)
  by_next Check m = absurd m
  by_next None_owed m = m

  pub found_set : (w : Wish T) → old.standing.next ≡ Sleeping w → Moves c old new Sleeps
      → new.queue.notes ≡ note_of (as_role (role_of w) (FindsBit old.queue.seat.name true)) old.queue ∷ old.queue.notes
  found_set w is m = (subst (λ (x : Next T). MovesNext c old new x Sleeps) is (by_next (first_debt old.standing) m)).signs.notes_are
