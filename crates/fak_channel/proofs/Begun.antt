-- How a call begins.
use Rattle.std.proofs.Common.{◌≡◌, ◌≢◌, ℕ, ◌+◌, ◌<◌, Bool, true, false, refl, ap, sym, ◌∙◌, subst, inl, arith, []}
use Rattle.fak_channel_core.specs.SleeperSides.{tried_stage}
use Rattle.fak_queue.specs.Queues.{drawn_by}
use Rattle.fak_queue.specs.SleeperSeats.{SleeperInfo, account_of_seat}
use Rattle.fak_channel.specs.declared.channel.Channel.{Channel}
use Rattle.fak_channel.specs.declared.seat.ChannelSeat.{ChannelSeat}
use Rattle.fak_channel.specs.declared.standing.CallStanding.{CallStanding}
use Rattle.fak_channel.specs.declared.standing.ChannelState.TheVariants as state
use Rattle.fak_channel.specs.declared.standing.Next.{Next}
use Rattle.fak_channel.specs.declared.standing.Next.TheVariants.{Idle, Claiming, Shutting}
use Rattle.fak_channel.specs.declared.standing.Wish.{Wish}
use Rattle.fak_channel.specs.declared.standing.Wish.TheVariants.{Send, Receive}
use Rattle.fak_channel.specs.ChannelSteps.{Asked, Sending, Receiving, Closing, SinceAt, BeginsAs, BeginsAfterLook}
use Rattle.fak_model.specs.declared.queue.Mark.{Mark}
use Rattle.fak_model.specs.Calls.{SeatInfo}
use Rattle.fak_channel.specs.Channels.{OnlyLooks}
use Rattle.fak_channel.specs.Marks.{HasMade}
use Rattle.fak_channel.specs.Moves.{with_next}
use Rattle.fak_channel.specs.Standings.{IsStepSeatOf, IsUp, HasTicket, StandsSo, OwesNone, call_state}
use Rattle.fak_channel.proofs.Following.{open_call}
use Rattle.fak_channel.proofs.Transitions.{less_same}
use Rattle.fak_channel.proofs.Waiting.{idle_so}

-- the standing of a call that begins
abbrev pub begun : {T : Type 0} → Bool → Next T → CallStanding T → CallStanding T
begun is_try next s = with_next next (record s { tries = is_try })

ticket_left : (left drawn stint : ℕ) → left + drawn ≡ stint → left ≢ 0 → drawn < stint
ticket_left left drawn stint sum some = by left sum some
  where
    by : (n : ℕ) → n + drawn ≡ stint → n ≢ 0 → drawn < stint
    by n sum some = omega (arith, sum, some)

pub has_ticket : {T : Type 0} (left : ℕ) (q : SleeperInfo T) → left + drawn_by q.seat ≡ q.seat.stint → left ≢ 0 → HasTicket q
has_ticket left q sum some = ticket_left left (drawn_by q.seat) q.seat.stint sum some

module _ {T : Type 0} (c : Channel T) (q : SleeperInfo T) (s : CallStanding T) (S : IsStepSeatOf c (record { queue = q; standing = s })) (idle : call_state s.next ≡ state.Idle) where
  so : StandsSo Idle s q (account_of_seat q)
  so = idle_so s.next s q (account_of_seat q) idle S.next

  begun_with : (is_try : Bool) (next : Next T) → StandsSo next (begun is_try next s) q (account_of_seat q) → IsStepSeatOf c (record { queue = q; standing = begun is_try next s })
  begun_with is_try next next_so = record {
    object = S.object;
    ends = S.ends;
    cells = S.cells;
    few = S.few;
    pays = record { senders = S.pays.senders; receivers = S.pays.receivers };
    next = next_so;
  }

  none_owed : (is_try : Bool) (next : Next T) → OwesNone (begun is_try next s)
  none_owed is_try next = record { senders = so.none.senders; receivers = so.none.receivers; checks = so.none.checks }

  up : (w : Wish T) → IsUp w (account_of_seat q)
  up (Send x) = record { sender = ap tried_stage so.stages.sender; receiver = so.stages.receiver }
  up Receive = record { sender = so.stages.sender; receiver = ap tried_stage so.stages.receiver }

  pub claim_begins : (is_try : Bool) (w : Wish T) → HasTicket q → IsStepSeatOf c (record { queue = q; standing = begun is_try (Claiming w) s })
  claim_begins is_try w ticket =
      begun_with is_try (Claiming w) (record { queue = record { idle = so.queue; ticket = ticket }; none = none_owed is_try (Claiming w); checks = so.checks; stages = up w })

  pub close_begins : IsStepSeatOf c (record { queue = q; standing = begun false Shutting s })
  close_begins = begun_with false Shutting (record { queue = so.queue; none = none_owed false Shutting; checks = so.checks; stages = so.stages })

module _ {T : Type 0} (size : ℕ) (q : SleeperInfo T) (s : CallStanding T) where
  begins_with : (is_try : Bool) (next : Next T) (asked : Asked T) → call_state next ≡ state.Open → SinceAt size next asked (record { queue = q; standing = s }) (record { queue = q; standing = begun is_try next s })
      → BeginsAs size is_try asked (record { queue = q; standing = s }) (record { queue = q; standing = begun is_try next s })
  begins_with is_try next asked is h = record { in_call = λ e. open_call (sym is ∙ e); tries = refl; call = record { notes = ([], refl); since = h } }

  pub begins_sending : (is_try : Bool) (x : T) → BeginsAs size is_try (Sending x) (record { queue = q; standing = s }) (record { queue = q; standing = begun is_try (Claiming (Send x)) s })
  begins_sending is_try x = begins_with is_try (Claiming (Send x)) (Sending x) refl (refl, inl refl)

  pub begins_receiving : (is_try : Bool) → BeginsAs size is_try Receiving (record { queue = q; standing = s }) (record { queue = q; standing = begun is_try (Claiming Receive) s })
  begins_receiving is_try = begins_with is_try (Claiming Receive) Receiving refl (inl refl)

  pub begins_closing : BeginsAs size false Closing (record { queue = q; standing = s }) (record { queue = q; standing = begun false Shutting s })
  begins_closing = begins_with false Shutting Closing refl refl

-- ---- tries that begin with a look

module _ {T : Type 0} (size : ℕ) (old looked new : ChannelSeat T) (looks : OnlyLooks size old looked) where
  -- a ticket is left after the look
  pub looked_ticket : (left : ℕ) → left + drawn_by old.queue.seat ≡ old.queue.seat.stint → left ≢ 0 → drawn_by looked.queue.seat ≡ drawn_by old.queue.seat → HasTicket looked.queue
  looked_ticket left sum some drawn =
      less_same (drawn_by looked.queue.seat) looked.queue.seat.stint (has_ticket left old.queue sum some) drawn (ap (λ (i : SeatInfo (Mark T)). i.stint) looks.looks.same_seat)

  try_begins : (asked : Asked T) (w : Wish T) → new.queue ≡ looked.queue → new.standing ≡ begun true (Claiming w) looked.standing → SinceAt size (Claiming w) asked new new → BeginsAfterLook size asked old new
  try_begins asked w queue stands since = record {
    looks = subst (λ (q : SleeperInfo T). HasMade size [] old.queue.seat q.seat) (sym queue) looks.looks;
    same_notes = ap (λ (q : SleeperInfo T). q.notes) queue ∙ looks.same_notes;
    begins = record {
      in_call = subst (λ (t : CallStanding T). call_state t.next ≢ state.Idle) (sym stands) (λ e. open_call e);
      tries = ap (λ (t : CallStanding T). t.tries) stands;
      call = record { notes = ([], refl); since = subst (λ (t : CallStanding T). SinceAt size t.next asked new new) (sym stands) since };
    };
  }

  pub try_sends : (x : T) → new.queue ≡ looked.queue → new.standing ≡ begun true (Claiming (Send x)) looked.standing → BeginsAfterLook size (Sending x) old new
  try_sends x queue stands = try_begins (Sending x) (Send x) queue stands (refl, inl refl)

  pub try_receives : new.queue ≡ looked.queue → new.standing ≡ begun true (Claiming Receive) looked.standing → BeginsAfterLook size Receiving old new
  try_receives queue stands = try_begins Receiving Receive queue stands (inl refl)
