-- Each step of a call leaves the standing of its seat in agreement with its account.
use Rattle.std.proofs.Common.{◌≡◌, ◌⊎◌, ℕ, ◌+◌, ◌*◌, ◌/◌, ◌<◌, ◌≤◌, Bool, true, false, refl, ap, sym, ◌∙◌, subst, inl, inr, arith, List, [], ◌∷◌, Option, Some, None, reverse, if◌then◌else◌}
use Rattle.fak_model.specs.Limits.{large_seats}
use Rattle.fak_model.specs.declared.note.NoteKind.{NoteKind}
use Rattle.fak_model.specs.declared.note.NoteKind.TheVariants.{AsSender, AsReceiver, Checks}
use Rattle.fak_model.specs.declared.note.Sign.TheVariants.{Registers, FindsNoItem, FallsAsleep, IsWoken, TakesBack, FindsBit, PassesWord, FindsWord, WakesEnd}
use Rattle.fak_model.specs.declared.queue.Kind.{Kind}
use Rattle.fak_model.specs.declared.queue.Kind.TheVariants as made
use Rattle.fak_model.specs.declared.queue.Mark.{Mark}
use Rattle.fak_model.specs.Calls.{ObjectId, SeatInfo}
use Rattle.fak_model.specs.declared.note.Note.{Note}
use Rattle.fak_channel_core.specs.SleeperSides.{SleepStage, Awake, Registered, PastLower, Asleep, relies_on_bit, tried_stage, owes_look, tried}
use Rattle.fak_channel_core.specs.SleeperMoves.{Account, after_note}
use Rattle.fak_queue.specs.Accounts.{after_kinds}
use Rattle.fak_queue.specs.Queues.{Makes, ShutsAs, drawn_by, state_of}
use Rattle.fak_queue.specs.Sleepers.{as_role}
use Rattle.fak_queue.specs.declared.role.Role.{Role}
use Rattle.fak_queue.specs.declared.role.Role.TheVariants.{Sender, Receiver}
use Rattle.fak_queue.specs.declared.state.SeatState.TheVariants as at
use Rattle.fak_queue.specs.SleeperSeats.{SleeperInfo, account_of_seat, AddsNote, AddsNoNote, LeavesNoMark, TakesBit, ChecksDrained}
use Rattle.fak_channel.specs.declared.channel.Channel.{Channel}
use Rattle.fak_channel.specs.declared.seat.ChannelSeat.{ChannelSeat}
use Rattle.fak_channel.specs.declared.standing.CallStanding.{CallStanding}
use Rattle.fak_channel.specs.declared.standing.ChannelStep.{ChannelStep}
use Rattle.fak_channel.specs.declared.standing.ChannelStep.TheVariants.{GoesOn, NotYet, Sleeps, Wakes, Ends}
use Rattle.fak_channel.specs.declared.standing.Looks.{Looks}
use Rattle.fak_channel.specs.declared.standing.Next.{Next}
use Rattle.fak_channel.specs.declared.standing.Next.TheVariants.{Idle, Claiming, Inserting, Deleting, Checking, Registering, Testing, TestingDrained, TakingBack, Sleeping, Refusing, Refused, Shutting, Ending}
use Rattle.fak_channel.specs.declared.standing.Outcome.TheVariants as outcome
use Rattle.fak_channel.specs.declared.standing.Wish.{Wish}
use Rattle.fak_channel.specs.declared.standing.Wish.TheVariants.{Send, Receive}
use Rattle.fak_channel.specs.Looks.{words_of, word_at, past_word, past_bits, finding, retrying, done_at, Covers}
use Rattle.fak_channel.specs.Standings.{IsStepSeatOf, StandsSo, OwesNone, Pays, ChecksIf, MayClaim, IsInserting, IsDeleting, IsUp, SenderIsUp, ReceiverIsUp, HasSet, IsAwake, StageFor, StagesAre, role_of, ticket_in}
use Rattle.fak_channel.specs.Moves.{Debt, Look, Check, None_owed, first_debt, looks_for, with_looks, with_next, room_made, item_made, checked, refused_next, Calls, WasRefused, LoadsWord, passes, goes_round, finds, ClearsBit, LooksOnce, ClaimsRoom, room_granted, found_full, found_closed, ClaimsItem, item_granted, found_empty, FillsCell, WaitsForRoom, TakesItem, WaitsForItem, ChecksEmpty, found_drained, found_none, TestsRoom, sender_sleeps, room_came, TestsItem, no_item_yet, item_came, TestsDrained, receiver_sleeps, drained_meanwhile, ClearsOwn, TakesOwn, FindsBitSet, OnlyStands, ShutsQueue, SetsBit, MovesNext, ChecksOnce, MovesBy, Moves}
use Rattle.fak_channel.proofs.Covering.{covers_same, covers_owing, covers_past, covers_round, covers_finding, covers_retrying, covers_done}

-- ---- plain facts

pub less_same : {a b : ℕ} (d e : ℕ) → a < b → d ≡ a → e ≡ b → d < e
less_same d e less one two = omega (arith, less, one, two)

not_both : {A : Type 0} {b : Bool} → b ≡ true → b ≡ false → A
not_both {A} {b} is is_not = absurd (let f : true ≡ false = sym is ∙ is_not in cc)

small_name : (k from words ends : ℕ) → ends ≤ large_seats → words ≡ (ends + 63) / 64 → from < 64 * words → k / 64 ≡ from / 64 → k < large_seats
small_name k from words ends few are below same = omega (arith, few, are, below, same)

-- ---- the queue's part

module _ {T : Type 0} {size : ℕ} (old new : SleeperInfo T) where
  stint_same : (kinds : List (Kind T)) → Makes size kinds old.seat new.seat → new.seat.stint ≡ old.seat.stint
  stint_same kinds makes = ap (λ (s : SeatInfo (Mark T)). s.stint) makes.same_seat

  -- a step on the bits
  may_step : {notes : List Note} {g : Account} → LeavesNoMark size notes g old new → MayClaim old → MayClaim new
  may_step l may = record { idle = l.state ∙ may.idle; ticket = less_same (drawn_by new.seat) new.seat.stint may.ticket l.left (stint_same [] l.makes) }

  -- a refused claim
  may_again : (kinds : List (Kind T)) → WasRefused size old new → Makes size kinds old.seat new.seat → MayClaim new
  may_again kinds was makes = record { idle = was.idle; ticket = less_same (drawn_by new.seat) new.seat.stint was.within was.drawn (stint_same kinds makes) }

-- ---- what comes next, while a debt is paid

-- only states that may owe something can have a debt
owing_next : {T : Type 0} (n : Next T) (s s' : CallStanding T) (q q' : SleeperInfo T) (g g' : Account) → s'.tries ≡ s.tries → (OwesNone s → ⊥) → (s.checks ≡ false → s'.checks ≡ false) → (ChecksIf s g → ChecksIf s' g') → (MayClaim q → MayClaim q') → state_of q'.seat ≡ state_of q.seat
    → (IsAwake g → IsAwake g') → StandsSo n s q g → StandsSo n s' q' g'
owing_next Idle s s' q q' g g' kind owes free keeps may same up h = absurd (owes h.none)
owing_next (Claiming w) s s' q q' g g' kind owes free keeps may same up h = absurd (owes h.none)
owing_next Inserting s s' q q' g g' kind owes free keeps may same up h = absurd (owes h.none)
owing_next Deleting s s' q q' g g' kind owes free keeps may same up h = absurd (owes h.none)
owing_next Checking s s' q q' g g' kind owes free keeps may same up h = record { queue = may h.queue; none = free h.none; stages = up h.stages }
owing_next (Registering w) s s' q q' g g' kind owes free keeps may same up h = record { stands = record { queue = may h.stands.queue; checks = keeps h.stands.checks; stages = up h.stands.stages }; tries = kind ∙ h.tries }
owing_next (Testing w) s s' q q' g g' kind owes free keeps may same up h = absurd (owes h.stands.none)
owing_next TestingDrained s s' q q' g g' kind owes free keeps may same up h = absurd (owes h.stands.none)
owing_next (TakingBack w) s s' q q' g g' kind owes free keeps may same up h = absurd (owes h.stands.none)
owing_next (Sleeping w) s s' q q' g g' kind owes free keeps may same up h = absurd (owes h.stands.none)
owing_next (Refusing w) s s' q q' g g' kind owes free keeps may same up h = record { stands = record { queue = may h.stands.queue; checks = keeps h.stands.checks; stages = up h.stands.stages }; tries = kind ∙ h.tries }
owing_next (Refused w) s s' q q' g g' kind owes free keeps may same up h = absurd (owes h.stands.none)
owing_next Shutting s s' q q' g g' kind owes free keeps may same up h = absurd (owes h.none)
owing_next (Ending o) s s' q q' g g' kind owes free keeps may same up h = record { queue = same ∙ h.queue; checks = keeps h.checks; stages = up h.stages }

-- with nothing owed, a standing that may owe something owes nothing
module _ {T : Type 0} (c : Channel T) (old new : ChannelSeat T) (S : IsStepSeatOf c old) where
  abbrev n : ℕ
  n = c.ends

  abbrev s : CallStanding T
  s = old.standing

  abbrev g : Account
  g = account_of_seat old.queue

  -- the new standing agrees with the new account
  put : (after : CallStanding T) (h : Account) → new.standing ≡ after → new.queue.seat.object ≡ old.queue.seat.object → account_of_seat new.queue ≡ h → Covers n after.senders h.sender → Covers n after.receivers h.receiver
      → StandsSo after.next after new.queue h → IsStepSeatOf c new
  put after h stands object account senders receivers next = record {
    object = object ∙ S.object;
    ends = S.ends;
    cells = S.cells;
    few = S.few;
    pays = subst (λ (t : CallStanding T). Pays n t (account_of_seat new.queue)) (sym stands) (subst (Pays n after) (sym account) (record { senders = senders; receivers = receivers }));
    next = subst (λ (t : CallStanding T). StandsSo t.next t new.queue (account_of_seat new.queue)) (sym stands) (subst (StandsSo after.next after new.queue) (sym account) next);
  }

  -- as many seats as ends
  seats_are : old.queue.seat.object.seats ≡ n
  seats_are = ap (λ (o : ObjectId). o.seats) S.object ∙ sym S.ends

  put_signed : {size : ℕ} (kind : NoteKind) → AddsNote size kind old.queue new.queue → (after : CallStanding T) → new.standing ≡ after → Covers n after.senders (after_note n kind g).sender → Covers n after.receivers (after_note n kind g).receiver
      → StandsSo after.next after new.queue (after_note n kind g) → IsStepSeatOf c new
  put_signed kind signs after stands senders receivers next =
      put after (after_note n kind g) stands signs.object (signs.account ∙ ap (λ k. after_note k kind g) seats_are) senders receivers next

  put_heard : {size : ℕ} → AddsNoNote size old.queue new.queue → (after : CallStanding T) → new.standing ≡ after → Covers n after.senders g.sender → Covers n after.receivers g.receiver → StandsSo after.next after new.queue g → IsStepSeatOf c new
  put_heard hears after stands senders receivers next = put after g stands hears.object hears.account senders receivers next

  put_called : {size : ℕ} (kinds : List (Kind T)) → Calls size old.queue new.queue → Makes size kinds old.queue.seat new.queue.seat → (after : CallStanding T) → new.standing ≡ after → Covers n after.senders (after_kinds n (reverse kinds) g).sender
      → Covers n after.receivers (after_kinds n (reverse kinds) g).receiver → StandsSo after.next after new.queue (after_kinds n (reverse kinds) g) → IsStepSeatOf c new
  put_called kinds calls makes after stands senders receivers next =
      put after (after_kinds n (reverse kinds) g) stands calls.object (calls.notes.account kinds makes ∙ ap (λ k. after_kinds k (reverse kinds) g) seats_are) senders receivers next

  -- ---- looks

  small_found : (l : Looks) (d : _) (k : ℕ) → Covers n l d → k / 64 ≡ word_at l → k < large_seats
  small_found l d k covers same = small_name k l.from (words_of n) n S.few refl covers.from same

  looked : {size : ℕ} (role : Role) → (looks_for role s).is_owed ≡ true → LoadsWord n size role (looks_for role s) old new → IsStepSeatOf c new
  looked Sender owed (passes signs stands) =
      put_signed (AsSender (PassesWord (word_at s.senders))) signs (record s { senders = past_word n s.senders }) stands (covers_past owed S.pays.senders) S.pays.receivers
      (owing_next s.next s _ old.queue new.queue g _ refl (λ o. not_both owed o.senders) (λ e. e) (λ e. e) (λ may. may_step old.queue new.queue signs may) signs.state (λ up. record { sender = up.sender; receiver = up.receiver }) S.next)
  looked Sender owed (goes_round found signs some at stands) =
      put_signed (AsSender (FindsWord (word_at s.senders) found)) signs (record s { senders = past_bits n s.senders }) stands (covers_round owed S.pays.senders) S.pays.receivers
      (owing_next s.next s _ old.queue new.queue g _ refl (λ o. not_both owed o.senders) (λ e. e) (λ e. e) (λ may. may_step old.queue new.queue signs may) signs.state (λ up. up) S.next)
  looked Sender owed (finds k found signs at stands) =
      put_signed (AsSender (FindsWord (word_at s.senders) found)) signs (record s { senders = finding k s.senders }) stands (covers_finding k (small_found s.senders g.sender k S.pays.senders at.0) S.pays.senders) S.pays.receivers
      (owing_next s.next s _ old.queue new.queue g _ refl (λ o. not_both owed o.senders) (λ e. e) (λ e. e) (λ may. may_step old.queue new.queue signs may) signs.state (λ up. up) S.next)
  looked Receiver owed (passes signs stands) =
      put_signed (AsReceiver (PassesWord (word_at s.receivers))) signs (record s { receivers = past_word n s.receivers }) stands S.pays.senders (covers_past owed S.pays.receivers)
      (owing_next s.next s _ old.queue new.queue g _ refl (λ o. not_both owed o.receivers) (λ e. e) (λ e. e) (λ may. may_step old.queue new.queue signs may) signs.state (λ up. record { sender = up.sender; receiver = up.receiver }) S.next)
  looked Receiver owed (goes_round found signs some at stands) =
      put_signed (AsReceiver (FindsWord (word_at s.receivers) found)) signs (record s { receivers = past_bits n s.receivers }) stands S.pays.senders (covers_round owed S.pays.receivers)
      (owing_next s.next s _ old.queue new.queue g _ refl (λ o. not_both owed o.receivers) (λ e. e) (λ e. e) (λ may. may_step old.queue new.queue signs may) signs.state (λ up. up) S.next)
  looked Receiver owed (finds k found signs at stands) =
      put_signed (AsReceiver (FindsWord (word_at s.receivers) found)) signs (record s { receivers = finding k s.receivers }) stands S.pays.senders (covers_finding k (small_found s.receivers g.receiver k S.pays.receivers at.0) S.pays.receivers)
      (owing_next s.next s _ old.queue new.queue g _ refl (λ o. not_both owed o.receivers) (λ e. e) (λ e. e) (λ may. may_step old.queue new.queue signs may) signs.state (λ up. up) S.next)

  woke : {size : ℕ} (role : Role) (k : ℕ) → (looks_for role s).is_owed ≡ true → AddsNote size (as_role role (WakesEnd k)) old.queue new.queue → new.standing ≡ with_looks role (done_at n k (looks_for role s)) s → IsStepSeatOf c new
  woke Sender k owed signs stands =
      put_signed (AsSender (WakesEnd k)) signs (record s { senders = done_at n k s.senders }) stands (covers_done k S.pays.senders) S.pays.receivers
      (owing_next s.next s _ old.queue new.queue g _ refl (λ o. not_both owed o.senders) (λ e. e) (λ e. e) (λ may. may_step old.queue new.queue signs may) signs.state (λ up. record { sender = up.sender; receiver = up.receiver }) S.next)
  woke Receiver k owed signs stands =
      put_signed (AsReceiver (WakesEnd k)) signs (record s { receivers = done_at n k s.receivers }) stands S.pays.senders (covers_done k S.pays.receivers)
      (owing_next s.next s _ old.queue new.queue g _ refl (λ o. not_both owed o.receivers) (λ e. e) (λ e. e) (λ may. may_step old.queue new.queue signs may) signs.state (λ up. record { sender = up.sender; receiver = up.receiver }) S.next)

  retried : {size : ℕ} (role : Role) (k : ℕ) → (looks_for role s).is_owed ≡ true → AddsNote size (as_role role (FindsBit k false)) old.queue new.queue → new.standing ≡ with_looks role (retrying (looks_for role s)) s → IsStepSeatOf c new
  retried Sender k owed signs stands =
      put_signed (AsSender (FindsBit k false)) signs (record s { senders = retrying s.senders }) stands (covers_retrying S.pays.senders) S.pays.receivers
      (owing_next s.next s _ old.queue new.queue g _ refl (λ o. not_both owed o.senders) (λ e. e) (λ e. e) (λ may. may_step old.queue new.queue signs may) signs.state (λ up. up) S.next)
  retried Receiver k owed signs stands =
      put_signed (AsReceiver (FindsBit k false)) signs (record s { receivers = retrying s.receivers }) stands S.pays.senders (covers_retrying S.pays.receivers)
      (owing_next s.next s _ old.queue new.queue g _ refl (λ o. not_both owed o.receivers) (λ e. e) (λ e. e) (λ may. may_step old.queue new.queue signs may) signs.state (λ up. up) S.next)

  cleared : (size : ℕ) (role : Role) (k : ℕ) (r : ChannelStep T) → (looks_for role s).is_owed ≡ true → ClearsBit n size role (looks_for role s) old new k r → IsStepSeatOf c new
  cleared size role k GoesOn owed m = retried role k owed m.0 m.1
  cleared size role k NotYet owed m = absurd m
  cleared size role k Sleeps owed m = absurd m
  cleared size role k (Wakes number) owed m = woke role k owed m.1 m.2
  cleared size role k (Ends o) owed m = absurd m

  looks_once : (size : ℕ) (role : Role) (found : Option ℕ) (r : ChannelStep T) → (looks_for role s).is_owed ≡ true → LooksOnce n size role (looks_for role s) old new found r → IsStepSeatOf c new
  looks_once size role None GoesOn owed m = looked role owed m
  looks_once size role None NotYet owed m = absurd m
  looks_once size role None Sleeps owed m = absurd m
  looks_once size role None (Wakes number) owed m = absurd m
  looks_once size role None (Ends o) owed m = absurd m
  looks_once size role (Some k) r owed m = cleared size role k r owed m

  -- ---- a check that is owed

  few_owed : (looks : ℕ) → looks ≡ 0 → looks + 1 ≤ 1
  few_owed looks none = omega (arith, none)

  paid_check : (size : ℕ) (drained : Bool) → s.receivers.is_owed ≡ false → s.checks ≡ true → ChecksDrained size drained old.queue new.queue → new.standing ≡ checked n drained s → IsStepSeatOf c new
  paid_check size true none owed m stands =
      let signs = m.0 in
      put_signed (Checks true) signs (checked n true s) stands S.pays.senders (covers_owing (owes_look g.receiver) (few_owed g.receiver.looks (S.pays.receivers.owed none)) S.pays.receivers)
      (owing_next s.next s _ old.queue new.queue g _ refl (λ o. not_both owed o.checks) (λ e. refl) (λ e f. refl) (λ may. may_step old.queue new.queue signs may) signs.state (λ up. record { sender = up.sender; receiver = up.receiver }) S.next)
  paid_check size false none owed m stands =
      let signs = m.0 in
      put_signed (Checks false) signs (checked n false s) stands S.pays.senders S.pays.receivers
      (owing_next s.next s _ old.queue new.queue g _ refl (λ o. not_both owed o.checks) (λ e. refl) (λ e f. refl) (λ may. may_step old.queue new.queue signs may) signs.state (λ up. record { sender = up.sender; receiver = up.receiver }) S.next)

  -- ---- claims

  none_still : (next : Next T) → OwesNone s → OwesNone (with_next next s)
  none_still next o = record { senders = o.senders; receivers = o.receivers; checks = o.checks }

  module _ (none : OwesNone s) where
    no_sender : g.sender.looks ≡ 0
    no_sender = S.pays.senders.owed none.senders

    no_receiver : g.receiver.looks ≡ 0
    no_receiver = S.pays.receivers.owed none.receivers

    one_at_most : (looks : ℕ) → looks ≡ 0 → looks ≤ 1
    one_at_most looks zero_is = omega (arith, zero_is)

    -- a refused claim of room: a try ends, and another call sets its bit
    refused_stands : (w : Wish T) (h : Account) → MayClaim new.queue → IsAwake h → StandsSo (refused_next s w) (with_next (refused_next s w) (room_made n s)) new.queue h
    refused_stands w h may up = by s.tries refl
      where
        by : (tries : Bool) → s.tries ≡ tries → StandsSo (if tries then Refusing w else Registering w) (with_next (if tries then Refusing w else Registering w) (room_made n s)) new.queue h
        by true is = record { stands = record { queue = may; checks = λ e. not_both refl e; stages = up }; tries = is }
        by false is = record { stands = record { queue = may; checks = λ e. not_both refl e; stages = up }; tries = is }

    -- the same after a claim that its first test refused
    refused_plainly : (w : Wish T) (h : Account) → MayClaim new.queue → IsAwake h → ChecksIf s h → StandsSo (refused_next s w) (with_next (refused_next s w) s) new.queue h
    refused_plainly w h may up free = by s.tries refl
      where
        by : (tries : Bool) → s.tries ≡ tries → StandsSo (if tries then Refusing w else Registering w) (with_next (if tries then Refusing w else Registering w) s) new.queue h
        by true is = record { stands = record { queue = may; checks = free; stages = up }; tries = is }
        by false is = record { stands = record { queue = may; checks = free; stages = up }; tries = is }

    room_refused : {size : ℕ} (kinds : List (Kind T)) (next : Next T) → WasRefused size old.queue new.queue → Makes size kinds old.queue.seat new.queue.seat → new.standing ≡ with_next next (room_made n s)
        → (after_kinds n (reverse kinds) g).sender.looks ≤ 1 → (after_kinds n (reverse kinds) g).receiver.looks ≡ g.receiver.looks → (after_kinds n (reverse kinds) g).receiver.passed ≡ g.receiver.passed
        → StandsSo next (with_next next (room_made n s)) new.queue (after_kinds n (reverse kinds) g) → IsStepSeatOf c new
    room_refused kinds next was makes stands few looks passed next_so =
        put_called kinds was.calls makes (with_next next (room_made n s)) stands (covers_owing (after_kinds n (reverse kinds) g).sender few S.pays.senders) (covers_same (after_kinds n (reverse kinds) g).receiver looks passed S.pays.receivers) next_so

    module _ (x : T) (up : SenderIsUp g) where
      sender_tried : tried_stage g.sender.stage ≡ Awake
      sender_tried = up.sender

      receiver_up : g.receiver.stage ≡ Awake
      receiver_up = up.receiver

      -- the marks of an insertion that was withdrawn
      abbrev withdrawn : List (Kind T)
      withdrawn = made.OverIn ∷ made.BackIn ∷ []

      claimed_room : ChecksIf s g → ClaimsRoom c old new x → IsStepSeatOf c new
      claimed_room free (room_granted k calls state claims stands) =
          put_called (made.ClaimIn ∷ made.Put x ∷ []) calls claims.makes (with_next Inserting s) stands (covers_same (tried g.sender) refl refl S.pays.senders) (covers_same g.receiver refl refl S.pays.receivers)
          (record { queue = state ∙ ap at.Inserting (sym (ap ticket_in state)); none = none_still Inserting none; checks = free; stages = record { sender = sender_tried; receiver = receiver_up } })
      claimed_room free (found_full upper false was refuses makes stands) =
          put_called (made.NoRoom ∷ []) was.calls makes (with_next (refused_next s (Send x)) s) stands (covers_same (tried g.sender) refl refl S.pays.senders) (covers_same g.receiver refl refl S.pays.receivers)
          (refused_plainly (Send x) (after_kinds {T = T} n (reverse (made.NoRoom ∷ [])) g) (may_again old.queue new.queue (made.NoRoom ∷ []) was makes) (record { sender = sender_tried; receiver = receiver_up }) free)
      claimed_room free (found_full upper true was refuses makes stands) =
          room_refused withdrawn (refused_next s (Send x)) was makes stands (few_owed g.sender.looks no_sender) refl refl
          (refused_stands (Send x) (after_kinds {T = T} n (reverse withdrawn) g) (may_again old.queue new.queue withdrawn was makes) (record { sender = sender_tried; receiver = receiver_up }))
      claimed_room free (found_closed was refuses stands) = by refuses
        where
          by : Makes c.queue.size (made.Closed ∷ []) old.queue.seat new.queue.seat ⊎ Makes c.queue.size (made.LateIn ∷ made.BackIn ∷ []) old.queue.seat new.queue.seat → IsStepSeatOf c new
          by (inl m) =
              room_refused (made.Closed ∷ []) (Ending (outcome.Refused x)) was m stands (few_owed g.sender.looks no_sender) refl refl
              (record { queue = was.idle; checks = λ e. not_both refl e; stages = record { sender = sender_tried; receiver = receiver_up } })
          by (inr m) =
              room_refused (made.LateIn ∷ made.BackIn ∷ []) (Ending (outcome.Refused x)) was m stands (few_owed g.sender.looks no_sender) refl refl
              (record { queue = was.idle; checks = λ e. not_both refl e; stages = record { sender = sender_tried; receiver = receiver_up } })

    module _ (up : ReceiverIsUp g) where
      receiver_tried : tried_stage g.receiver.stage ≡ Awake
      receiver_tried = up.receiver

      sender_up : g.sender.stage ≡ Awake
      sender_up = up.sender

      item_refused : {size : ℕ} (kinds : List (Kind T)) → WasRefused size old.queue new.queue → Makes size kinds old.queue.seat new.queue.seat → new.standing ≡ with_next Checking (item_made n s) → (after_kinds n (reverse kinds) g).receiver.looks ≤ 1
          → (after_kinds n (reverse kinds) g).sender.looks ≡ g.sender.looks → (after_kinds n (reverse kinds) g).sender.passed ≡ g.sender.passed → IsAwake (after_kinds n (reverse kinds) g) → IsStepSeatOf c new
      item_refused kinds was makes stands few looks passed awake =
          put_called kinds was.calls makes (with_next Checking (item_made n s)) stands (covers_same (after_kinds n (reverse kinds) g).sender looks passed S.pays.senders) (covers_owing (after_kinds n (reverse kinds) g).receiver few S.pays.receivers)
          (record { queue = may_again old.queue new.queue kinds was makes; none = none.checks; stages = awake })

      claimed_item : ChecksIf s g → ClaimsItem c old new → IsStepSeatOf c new
      claimed_item free (item_granted k calls state claims stands) =
          put_called (made.ClaimOut ∷ made.Got claims.item ∷ []) calls claims.makes (with_next Deleting s) stands (covers_same g.sender refl refl S.pays.senders) (covers_same (tried g.receiver) refl refl S.pays.receivers)
          (record { queue = state ∙ ap at.Deleting (sym (ap ticket_in state)); none = none_still Deleting none; checks = free; stages = record { sender = sender_up; receiver = receiver_tried } })
      claimed_item free (found_empty lower false was refuses makes stands) =
          put_called (made.NoItem ∷ []) was.calls makes (with_next Checking s) stands (covers_same g.sender refl refl S.pays.senders) (covers_same (tried g.receiver) refl refl S.pays.receivers)
          (record { queue = may_again old.queue new.queue (made.NoItem ∷ []) was makes; none = none.checks; stages = record { sender = sender_up; receiver = receiver_tried } })
      claimed_item free (found_empty lower true was refuses makes stands) =
          item_refused (made.OverOut ∷ made.BackOut ∷ []) was makes stands (few_owed g.receiver.looks no_receiver) refl refl (record { sender = sender_up; receiver = receiver_tried })

    -- ---- the rest of a granted call

    filled : IsAwake g → ChecksIf s g → FillsCell c old new → IsStepSeatOf c new
    filled up free m =
        put_called (made.Fill (ticket_in (state_of old.queue.seat)) ∷ made.EndIn ∷ []) m.calls m.fills (with_next (Ending outcome.Sent) (item_made n s)) m.stands (covers_same g.sender refl refl S.pays.senders)
        (covers_owing (owes_look g.receiver) (few_owed g.receiver.looks no_receiver) S.pays.receivers) (record { queue = m.idle; checks = free; stages = record { sender = up.sender; receiver = up.receiver } })

    waits_for_room : IsAwake g → ChecksIf s g → IsInserting old.queue → s.next ≡ Inserting → WaitsForRoom c old new → IsStepSeatOf c new
    waits_for_room up free at_cell is m =
        put_called [] m.calls m.waits.makes s m.stands S.pays.senders S.pays.receivers
        (subst (λ (x : Next T). StandsSo x s new.queue g) (sym is) (record { queue = m.same ∙ (at_cell ∙ ap at.Inserting (ap ticket_in (sym m.same))); none = none; checks = free; stages = up }))

    taken : IsAwake g → TakesItem c old new → IsStepSeatOf c new
    taken up m =
        put_called (made.Take (ticket_in (state_of old.queue.seat)) ∷ made.EndOut ∷ []) m.calls m.takes.makes (with_next (Ending (outcome.Received m.item)) (room_made n s)) m.stands (covers_owing (owes_look g.sender) (few_owed g.sender.looks no_sender) S.pays.senders)
        (covers_same g.receiver refl refl S.pays.receivers) (record { queue = m.idle; checks = λ e. not_both refl e; stages = record { sender = up.sender; receiver = up.receiver } })

    waits_for_item : IsAwake g → ChecksIf s g → IsDeleting old.queue → s.next ≡ Deleting → WaitsForItem c old new → IsStepSeatOf c new
    waits_for_item up free at_cell is m =
        put_called [] m.calls m.waits.makes s m.stands S.pays.senders S.pays.receivers
        (subst (λ (x : Next T). StandsSo x s new.queue g) (sym is) (record { queue = m.same ∙ (at_cell ∙ ap at.Deleting (ap ticket_in (sym m.same))); none = none; checks = free; stages = up }))

    shut_down : IsAwake g → ShutsQueue c old new → IsStepSeatOf c new
    shut_down up m =
        put_called (made.Close ∷ []) m.calls (makes m.was_open m.shuts) (with_next (Ending (if m.was_open then outcome.Closed else outcome.WasClosed)) (room_made n s)) m.stands (covers_owing (owes_look g.sender) (few_owed g.sender.looks no_sender) S.pays.senders)
        (covers_same g.receiver refl refl S.pays.receivers) (record { queue = m.idle; checks = λ e. not_both refl e; stages = record { sender = up.sender; receiver = up.receiver } })
      where
        makes : (was_open : Bool) → ShutsAs c.queue.size was_open old.queue.seat new.queue.seat → Makes c.queue.size (made.Close ∷ []) old.queue.seat new.queue.seat
        makes true h = h.0
        makes false h = h.0

    -- ---- on the way to sleep

    tested_room : (x : T) → s.tries ≡ false → MayClaim old.queue → ChecksIf s g → StagesAre Registered Awake g → TestsRoom c old new x → IsStepSeatOf c new
    tested_room x kind may free stage (sender_sleeps upper signs full stands) =
        put_signed (AsSender FallsAsleep) signs (with_next (Sleeping (Send x)) s) stands (covers_same (after_note n (AsSender FallsAsleep) g).sender refl refl S.pays.senders) S.pays.receivers
        (record { stands = record { queue = may_step old.queue new.queue signs may; none = none_still (Sleeping (Send x)) none; checks = free; stages = record { sender = refl; receiver = stage.receiver } }; tries = kind })
    tested_room x kind may free stage (room_came hears why stands) =
        put_heard hears (with_next (TakingBack (Send x)) s) stands S.pays.senders S.pays.receivers (record { stands = record { queue = may_step old.queue new.queue hears may; none = none_still (TakingBack (Send x)) none; checks = free; stages = record { sender = ap relies_on_bit stage.sender; receiver = stage.receiver } }; tries = kind })

    tested_item : s.tries ≡ false → MayClaim old.queue → ChecksIf s g → StagesAre Awake Registered g → TestsItem c old new → IsStepSeatOf c new
    tested_item kind may free stage (no_item_yet lower signs empty stands) =
        put_signed (AsReceiver FindsNoItem) signs (with_next TestingDrained s) stands S.pays.senders (covers_same (after_note n (AsReceiver FindsNoItem) g).receiver refl refl S.pays.receivers)
        (record { stands = record { queue = may_step old.queue new.queue signs may; none = none_still TestingDrained none; checks = free; stages = record { sender = stage.sender; receiver = refl } }; tries = kind })
    tested_item kind may free stage (item_came hears why stands) =
        put_heard hears (with_next (TakingBack Receive) s) stands S.pays.senders S.pays.receivers (record { stands = record { queue = may_step old.queue new.queue hears may; none = none_still (TakingBack Receive) none; checks = free; stages = record { sender = stage.sender; receiver = ap relies_on_bit stage.receiver } }; tries = kind })

    tested_drained : s.tries ≡ false → MayClaim old.queue → ChecksIf s g → StagesAre Awake PastLower g → TestsDrained c old new → IsStepSeatOf c new
    tested_drained kind may free stage (receiver_sleeps signs undrained stands) =
        put_signed (AsReceiver FallsAsleep) signs (with_next (Sleeping Receive) s) stands S.pays.senders (covers_same (after_note n (AsReceiver FallsAsleep) g).receiver refl refl S.pays.receivers)
        (record { stands = record { queue = may_step old.queue new.queue signs may; none = none_still (Sleeping Receive) none; checks = free; stages = record { sender = stage.sender; receiver = refl } }; tries = kind })
    tested_drained kind may free stage (drained_meanwhile hears why stands) =
        put_heard hears (with_next (TakingBack Receive) s) stands S.pays.senders S.pays.receivers (record { stands = record { queue = may_step old.queue new.queue hears may; none = none_still (TakingBack Receive) none; checks = free; stages = record { sender = stage.sender; receiver = ap relies_on_bit stage.receiver } }; tries = kind })

    -- the other role is awake
    abbrev OtherAwake : Wish T → Type 0
    OtherAwake (Send x) = g.receiver.stage ≡ Awake
    OtherAwake Receive = g.sender.stage ≡ Awake

    other_awake : (w : Wish T) (stage : SleepStage) → StageFor w stage g → OtherAwake w
    other_awake (Send x) stage h = h.receiver
    other_awake Receive stage h = h.sender

    claims_again : (size : ℕ) (w : Wish T) → MayClaim old.queue → ChecksIf s g → OtherAwake w → (was_set : Bool) → TakesBit size (role_of w) was_set old.queue new.queue → new.standing ≡ with_next (Claiming w) s → IsStepSeatOf c new
    claims_again size (Send x) may free other true signs stands =
        put_signed (AsSender TakesBack) signs (with_next (Claiming (Send x)) s) stands (covers_same (after_note n (AsSender TakesBack) g).sender refl refl S.pays.senders) S.pays.receivers
        (record { queue = may_step old.queue new.queue signs may; none = none_still (Claiming (Send x)) none; checks = free; stages = record { sender = refl; receiver = other } })
    claims_again size (Send x) may free other false signs stands =
        put_signed (AsSender IsWoken) signs (with_next (Claiming (Send x)) s) stands (covers_same (after_note n (AsSender IsWoken) g).sender refl refl S.pays.senders) S.pays.receivers
        (record { queue = may_step old.queue new.queue signs may; none = none_still (Claiming (Send x)) none; checks = free; stages = record { sender = refl; receiver = other } })
    claims_again size Receive may free other true signs stands =
        put_signed (AsReceiver TakesBack) signs (with_next (Claiming Receive) s) stands S.pays.senders (covers_same (after_note n (AsReceiver TakesBack) g).receiver refl refl S.pays.receivers)
        (record { queue = may_step old.queue new.queue signs may; none = none_still (Claiming Receive) none; checks = free; stages = record { sender = other; receiver = refl } })
    claims_again size Receive may free other false signs stands =
        put_signed (AsReceiver IsWoken) signs (with_next (Claiming Receive) s) stands S.pays.senders (covers_same (after_note n (AsReceiver IsWoken) g).receiver refl refl S.pays.receivers)
        (record { queue = may_step old.queue new.queue signs may; none = none_still (Claiming Receive) none; checks = free; stages = record { sender = other; receiver = refl } })

    own_cleared : (w : Wish T) → MayClaim old.queue → ChecksIf s g → HasSet w g → ClearsOwn c old new w → IsStepSeatOf c new
    own_cleared (Send x) may free set m = claims_again c.queue.size (Send x) may free set.receiver m.was_set m.takes m.stands
    own_cleared Receive may free set m = claims_again c.queue.size Receive may free set.sender m.was_set m.takes m.stands

    registered : (w : Wish T) → s.tries ≡ false → MayClaim old.queue → ChecksIf s g → IsAwake g → SetsBit c old new w → IsStepSeatOf c new
    registered (Send x) kind may free up m =
        put_signed (AsSender Registers) m.signs (with_next (Testing (Send x)) s) m.stands (covers_same (after_note n (AsSender Registers) g).sender refl refl S.pays.senders) S.pays.receivers
        (record { stands = record { queue = may_step old.queue new.queue m.signs may; none = none_still (Testing (Send x)) none; checks = free; stages = record { sender = refl; receiver = up.receiver } }; tries = kind })
    registered Receive kind may free up m =
        put_signed (AsReceiver Registers) m.signs (with_next (Testing Receive) s) m.stands S.pays.senders (covers_same (after_note n (AsReceiver Registers) g).receiver refl refl S.pays.receivers)
        (record { stands = record { queue = may_step old.queue new.queue m.signs may; none = none_still (Testing Receive) none; checks = free; stages = record { sender = up.sender; receiver = refl } }; tries = kind })

    still_set : (w : Wish T) → s.tries ≡ false → MayClaim old.queue → ChecksIf s g → StageFor w Asleep g → s.next ≡ Sleeping w → FindsBitSet c old new w → IsStepSeatOf c new
    still_set (Send x) kind may free stage is m =
        put_signed (AsSender (FindsBit old.queue.seat.name true)) m.signs s m.stands S.pays.senders S.pays.receivers
        (subst (λ (y : Next T). StandsSo y s new.queue g) (sym is) (record { stands = record { queue = may_step old.queue new.queue m.signs may; none = none; checks = free; stages = stage }; tries = kind }))
    still_set Receive kind may free stage is m =
        put_signed (AsReceiver (FindsBit old.queue.seat.name true)) m.signs s m.stands S.pays.senders S.pays.receivers
        (subst (λ (y : Next T). StandsSo y s new.queue g) (sym is) (record { stands = record { queue = may_step old.queue new.queue m.signs may; none = none; checks = free; stages = stage }; tries = kind }))

    -- a check after a claim that found no item
    checked_empty : MayClaim old.queue → IsAwake g → ChecksEmpty c old new → IsStepSeatOf c new
    checked_empty may up (found_drained m stands) =
        put_signed (Checks true) m.0 (with_next (Ending outcome.Drained) (checked n true s)) stands S.pays.senders (covers_owing (owes_look g.receiver) (few_owed g.receiver.looks no_receiver) S.pays.receivers)
        (record { queue = m.0.state ∙ may.idle; checks = λ e. refl; stages = record { sender = up.sender; receiver = up.receiver } })
    checked_empty may up (found_none m stands) =
        put_signed (Checks false) m.0 (with_next (refused_next s Receive) (checked n false s)) stands S.pays.senders S.pays.receivers (by s.tries refl)
      where
        by : (tries : Bool) → s.tries ≡ tries → StandsSo (if tries then Refusing Receive else Registering Receive) (with_next (if tries then Refusing Receive else Registering Receive) (checked n false s)) new.queue (after_note n (Checks false) g)
        by true is = record { stands = record { queue = may_step old.queue new.queue m.0 may; checks = λ e. refl; stages = record { sender = up.sender; receiver = up.receiver } }; tries = is }
        by false is = record { stands = record { queue = may_step old.queue new.queue m.0 may; checks = λ e. refl; stages = record { sender = up.sender; receiver = up.receiver } }; tries = is }

    -- nothing but the standing changes
    only_stands : (next : Next T) → OnlyStands c old new (with_next next s) → StandsSo next (with_next next s) old.queue g → IsStepSeatOf c new
    only_stands next m next_so = record {
      object = ap (λ (q : SleeperInfo T). q.seat.object) m.same ∙ S.object;
      ends = S.ends;
      cells = S.cells;
      few = S.few;
      pays = subst (λ (t : CallStanding T). Pays n t (account_of_seat new.queue)) (sym m.stands) (subst (λ (q : SleeperInfo T). Pays n (with_next next s) (account_of_seat q)) (sym m.same) (record { senders = S.pays.senders; receivers = S.pays.receivers }));
      next = subst (λ (t : CallStanding T). StandsSo t.next t new.queue (account_of_seat new.queue)) (sym m.stands) (subst (λ (q : SleeperInfo T). StandsSo next (with_next next s) q (account_of_seat q)) (sym m.same) next_so);
    }

    -- the step by what comes next
    next_moved : (x : Next T) (r : ChannelStep T) → s.next ≡ x → StandsSo x s old.queue g → MovesNext c old new x r → IsStepSeatOf c new
    next_moved Idle r is h m = absurd m
    next_moved (Claiming (Send x)) GoesOn is h m = claimed_room x h.stages h.checks m
    next_moved (Claiming Receive) GoesOn is h m = claimed_item h.stages h.checks m
    next_moved (Claiming (Send x)) NotYet is h m = absurd m
    next_moved (Claiming Receive) NotYet is h m = absurd m
    next_moved (Claiming (Send x)) Sleeps is h m = absurd m
    next_moved (Claiming Receive) Sleeps is h m = absurd m
    next_moved (Claiming (Send x)) (Wakes k) is h m = absurd m
    next_moved (Claiming Receive) (Wakes k) is h m = absurd m
    next_moved (Claiming (Send x)) (Ends o) is h m = absurd m
    next_moved (Claiming Receive) (Ends o) is h m = absurd m
    next_moved Inserting GoesOn is h m = filled h.stages h.checks m
    next_moved Inserting NotYet is h m = waits_for_room h.stages h.checks h.queue is m
    next_moved Inserting Sleeps is h m = absurd m
    next_moved Inserting (Wakes k) is h m = absurd m
    next_moved Inserting (Ends o) is h m = absurd m
    next_moved Deleting GoesOn is h m = taken h.stages m
    next_moved Deleting NotYet is h m = waits_for_item h.stages h.checks h.queue is m
    next_moved Deleting Sleeps is h m = absurd m
    next_moved Deleting (Wakes k) is h m = absurd m
    next_moved Deleting (Ends o) is h m = absurd m
    next_moved Checking GoesOn is h m = checked_empty h.queue h.stages m
    next_moved Checking NotYet is h m = absurd m
    next_moved Checking Sleeps is h m = absurd m
    next_moved Checking (Wakes k) is h m = absurd m
    next_moved Checking (Ends o) is h m = absurd m
    next_moved (Registering w) GoesOn is h m = registered w h.tries h.stands.queue h.stands.checks h.stands.stages m
    next_moved (Registering w) NotYet is h m = absurd m
    next_moved (Registering w) Sleeps is h m = absurd m
    next_moved (Registering w) (Wakes k) is h m = absurd m
    next_moved (Registering w) (Ends o) is h m = absurd m
    next_moved (Testing (Send x)) GoesOn is h m = tested_room x h.tries h.stands.queue h.stands.checks h.stands.stages m
    next_moved (Testing Receive) GoesOn is h m = tested_item h.tries h.stands.queue h.stands.checks h.stands.stages m
    next_moved (Testing (Send x)) NotYet is h m = absurd m
    next_moved (Testing Receive) NotYet is h m = absurd m
    next_moved (Testing (Send x)) Sleeps is h m = absurd m
    next_moved (Testing Receive) Sleeps is h m = absurd m
    next_moved (Testing (Send x)) (Wakes k) is h m = absurd m
    next_moved (Testing Receive) (Wakes k) is h m = absurd m
    next_moved (Testing (Send x)) (Ends o) is h m = absurd m
    next_moved (Testing Receive) (Ends o) is h m = absurd m
    next_moved TestingDrained GoesOn is h m = tested_drained h.tries h.stands.queue h.stands.checks h.stands.stages m
    next_moved TestingDrained NotYet is h m = absurd m
    next_moved TestingDrained Sleeps is h m = absurd m
    next_moved TestingDrained (Wakes k) is h m = absurd m
    next_moved TestingDrained (Ends o) is h m = absurd m
    next_moved (TakingBack w) GoesOn is h m = own_cleared w h.stands.queue h.stands.checks h.stands.stages m
    next_moved (TakingBack w) NotYet is h m = absurd m
    next_moved (TakingBack w) Sleeps is h m = absurd m
    next_moved (TakingBack w) (Wakes k) is h m = absurd m
    next_moved (TakingBack w) (Ends o) is h m = absurd m
    next_moved (Sleeping w) GoesOn is h m = claims_again c.queue.size w h.stands.queue h.stands.checks (other_awake w Asleep h.stands.stages) false m.signs m.stands
    next_moved (Sleeping w) NotYet is h m = absurd m
    next_moved (Sleeping w) Sleeps is h m = still_set w h.tries h.stands.queue h.stands.checks h.stands.stages is m
    next_moved (Sleeping w) (Wakes k) is h m = absurd m
    next_moved (Sleeping w) (Ends o) is h m = absurd m
    next_moved (Refusing w) GoesOn is h m = absurd m
    next_moved (Refusing w) NotYet is h m = absurd m
    next_moved (Refusing w) Sleeps is h m = only_stands (Refused w) m (record { stands = record { queue = h.stands.queue; none = none_still (Refused w) none; checks = h.stands.checks; stages = h.stands.stages }; tries = h.tries })
    next_moved (Refusing w) (Wakes k) is h m = absurd m
    next_moved (Refusing w) (Ends o) is h m = absurd m
    next_moved (Refused w) GoesOn is h m = only_stands (Claiming w) m (record { queue = h.stands.queue; none = none_still (Claiming w) none; checks = h.stands.checks; stages = up_of w h.stands.stages })
      where
        up_of : (w : Wish T) → IsAwake g → IsUp w g
        up_of (Send x) up = record { sender = ap tried_stage up.sender; receiver = up.receiver }
        up_of Receive up = record { sender = up.sender; receiver = ap tried_stage up.receiver }
    next_moved (Refused w) NotYet is h m = absurd m
    next_moved (Refused w) Sleeps is h m = absurd m
    next_moved (Refused w) (Wakes k) is h m = absurd m
    next_moved (Refused w) (Ends o) is h m = absurd m
    next_moved Shutting GoesOn is h m = shut_down h.stages m
    next_moved Shutting NotYet is h m = absurd m
    next_moved Shutting Sleeps is h m = absurd m
    next_moved Shutting (Wakes k) is h m = absurd m
    next_moved Shutting (Ends o) is h m = absurd m
    next_moved (Ending o) GoesOn is h m = absurd m
    next_moved (Ending o) NotYet is h m = absurd m
    next_moved (Ending o) Sleeps is h m = absurd m
    next_moved (Ending o) (Wakes k) is h m = absurd m
    next_moved (Ending o) (Ends p) is h m = only_stands Idle m.1 (record { queue = h.queue; none = none_still Idle none; checks = h.checks; stages = h.stages })

  checked_once : (r : ChannelStep T) → s.receivers.is_owed ≡ false → s.checks ≡ true → ChecksOnce c old new r → IsStepSeatOf c new
  checked_once GoesOn none owed m = paid_check c.queue.size m.drained none owed m.checks m.stands
  checked_once NotYet none owed m = absurd m
  checked_once Sleeps none owed m = absurd m
  checked_once (Wakes k) none owed m = absurd m
  checked_once (Ends o) none owed m = absurd m

  -- a step of a call leaves its seat in agreement with its account
  pub moved_stands : (r : ChannelStep T) → Moves c old new r → IsStepSeatOf c new
  moved_stands r m = by s.senders.is_owed s.receivers.is_owed s.checks refl refl refl m
    where
      by : (a b d : Bool) → s.senders.is_owed ≡ a → s.receivers.is_owed ≡ b → s.checks ≡ d → MovesBy c old new (if a then Look Sender else (if b then Look Receiver else (if d then Check else None_owed))) r → IsStepSeatOf c new
      by true b d ea eb ed m = looks_once c.queue.size Sender s.senders.found r ea m
      by false true d ea eb ed m = looks_once c.queue.size Receiver s.receivers.found r eb m
      by false false true ea eb ed m = checked_once r eb ed m
      by false false false ea eb ed m = next_moved (record { senders = ea; receivers = eb; checks = ed }) s.next r refl S.next m

  -- ---- calls that are given up

  -- a call that sleeps takes its bit back
  pub took_stands : (w : Wish T) → s.next ≡ Sleeping w → TakesOwn c old new w → IsStepSeatOf c new
  took_stands w is m = by w (subst (λ (x : Next T). StandsSo x s old.queue g) is S.next) m
    where
      by : (w : Wish T) → StandsSo (Sleeping w) s old.queue g → TakesOwn c old new w → IsStepSeatOf c new
      by (Send x) so m =
          put_signed (AsSender TakesBack) m.signs (with_next Idle s) m.stands (covers_same (after_note n (AsSender TakesBack) g).sender refl refl S.pays.senders) S.pays.receivers
          (record { queue = m.signs.state ∙ so.stands.queue.idle; none = none_still Idle so.stands.none; checks = so.stands.checks; stages = record { sender = refl; receiver = so.stands.stages.receiver } })
      by Receive so m =
          put_signed (AsReceiver TakesBack) m.signs (with_next Idle s) m.stands S.pays.senders (covers_same (after_note n (AsReceiver TakesBack) g).receiver refl refl S.pays.receivers)
          (record { queue = m.signs.state ∙ so.stands.queue.idle; none = none_still Idle so.stands.none; checks = so.stands.checks; stages = record { sender = so.stands.stages.sender; receiver = refl } })

  -- a try that was refused
  pub refused_try_stands : (w : Wish T) → s.next ≡ Refused w → OnlyStands c old new (with_next Idle s) → IsStepSeatOf c new
  refused_try_stands w is m =
      let so : StandsSo (Refused w) s old.queue g = subst (λ (x : Next T). StandsSo x s old.queue g) is S.next in
      only_stands so.stands.none Idle m (record { queue = so.stands.queue.idle; none = none_still Idle so.stands.none; checks = so.stands.checks; stages = so.stands.stages })

  -- with nothing owed, the step is the one that comes next
  pub next_moves : (r : ChannelStep T) → OwesNone s → MovesNext c old new s.next r → Moves c old new r
  next_moves r none m = subst (λ (d : Debt). MovesBy c old new d r) (sym no_debt) m
    where
      no_debt : first_debt s ≡ None_owed
      no_debt =
          ap (λ (a : Bool). if a then Look Sender else (if s.receivers.is_owed then Look Receiver else (if s.checks then Check else None_owed))) none.senders
          ∙ (ap (λ (b : Bool). if b then Look Receiver else (if s.checks then Check else None_owed)) none.receivers ∙ ap (λ (d : Bool). if d then Check else None_owed) none.checks)
