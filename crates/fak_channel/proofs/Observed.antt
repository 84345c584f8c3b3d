-- A look at the counts leaves a seat's standing in agreement with its account.
use Rattle.std.proofs.Common.{◌≡◌, ℕ, [], ap, sym, ◌∙◌, subst}
use Rattle.fak_model.specs.declared.queue.Mark.{Mark}
use Rattle.fak_model.specs.Calls.{SeatInfo}
use Rattle.fak_channel_core.specs.SleeperMoves.{Account}
use Rattle.fak_queue.specs.Queues.{Makes, drawn_by, state_of}
use Rattle.fak_queue.specs.SleeperSeats.{SleeperInfo, KeepsNotes, account_of_seat}
use Rattle.fak_queue.specs.declared.state.SeatState.TheVariants as at
use Rattle.fak_channel.specs.declared.channel.Channel.{Channel}
use Rattle.fak_channel.specs.declared.standing.CallStanding.{CallStanding}
use Rattle.fak_channel.specs.declared.standing.Next.{Next}
use Rattle.fak_channel.specs.declared.standing.Next.TheVariants.{Idle, Claiming, Inserting, Deleting, Checking, Registering, Testing, TestingDrained, TakingBack, Sleeping, Refusing, Refused, Shutting, Ending}
use Rattle.fak_channel.specs.Standings.{IsStepSeatOf, StandsSo, StandsClear, Pays, MayClaim, ticket_in}
use Rattle.fak_channel.proofs.Transitions.{less_same}

module _ {T : Type 0} (q q' : SleeperInfo T) (state : state_of q'.seat ≡ state_of q.seat) (drawn : drawn_by q'.seat ≡ drawn_by q.seat) (stint : q'.seat.stint ≡ q.seat.stint) where
  may_still : MayClaim q → MayClaim q'
  may_still may = record { idle = state ∙ may.idle; ticket = less_same (drawn_by q'.seat) q'.seat.stint may.ticket drawn stint }

  clear_still : {Fits : SleeperInfo T → Type 0} {Is : Account → Type 0} {s : CallStanding T} {g : Account} → (Fits q → Fits q') → StandsClear Fits Is s q g → StandsClear Fits Is s q' g
  clear_still fits h = record { queue = fits h.queue; none = h.none; checks = h.checks; stages = h.stages }

  -- what comes next stands as before
  next_still : (x : Next T) (s : CallStanding T) (g : Account) → StandsSo x s q g → StandsSo x s q' g
  next_still Idle s g h = record { queue = state ∙ h.queue; none = h.none; checks = h.checks; stages = h.stages }
  next_still (Claiming w) s g h = record { queue = may_still h.queue; none = h.none; checks = h.checks; stages = h.stages }
  next_still Inserting s g h = record { queue = state ∙ (h.queue ∙ ap at.Inserting (ap ticket_in (sym state))); none = h.none; checks = h.checks; stages = h.stages }
  next_still Deleting s g h = record { queue = state ∙ (h.queue ∙ ap at.Deleting (ap ticket_in (sym state))); none = h.none; checks = h.checks; stages = h.stages }
  next_still Checking s g h = record { queue = may_still h.queue; none = h.none; stages = h.stages }
  next_still (Registering w) s g h = record { stands = record { queue = may_still h.stands.queue; checks = h.stands.checks; stages = h.stands.stages }; tries = h.tries }
  next_still (Testing w) s g h = record { stands = clear_still may_still h.stands; tries = h.tries }
  next_still TestingDrained s g h = record { stands = clear_still may_still h.stands; tries = h.tries }
  next_still (TakingBack w) s g h = record { stands = clear_still may_still h.stands; tries = h.tries }
  next_still (Sleeping w) s g h = record { stands = clear_still may_still h.stands; tries = h.tries }
  next_still (Refusing w) s g h = record { stands = record { queue = may_still h.stands.queue; checks = h.stands.checks; stages = h.stands.stages }; tries = h.tries }
  next_still (Refused w) s g h = record { stands = clear_still may_still h.stands; tries = h.tries }
  next_still Shutting s g h = record { queue = state ∙ h.queue; none = h.none; checks = h.checks; stages = h.stages }
  next_still (Ending o) s g h = record { queue = state ∙ h.queue; checks = h.checks; stages = h.stages }

-- a look leaves no mark and no note
pub looked_stands : {T : Type 0} {size : ℕ} (c : Channel T) (s : CallStanding T) (old new : SleeperInfo T) → IsStepSeatOf c (record { queue = old; standing = s }) → new.seat.object ≡ old.seat.object → KeepsNotes size old new → state_of new.seat ≡ state_of old.seat → drawn_by new.seat ≡ drawn_by old.seat → Makes size [] old.seat new.seat
    → IsStepSeatOf c (record { queue = new; standing = s })
looked_stands {T} {size} c s old new S object keeps state drawn makes =
    let account : account_of_seat new ≡ account_of_seat old = keeps.account [] makes in
    let stint : new.seat.stint ≡ old.seat.stint = ap (λ (i : SeatInfo (Mark T)). i.stint) makes.same_seat in
    record {
      object = object ∙ S.object;
      ends = S.ends;
      cells = S.cells;
      few = S.few;
      pays = subst (Pays c.ends s) (sym account) S.pays;
      next = subst (StandsSo s.next s new) (sym account) (next_still old new state drawn stint s.next s (account_of_seat old) S.next);
    }
