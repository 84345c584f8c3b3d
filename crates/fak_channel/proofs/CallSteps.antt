-- How each step of a call adds to what the call has done so far.
use Rattle.std.proofs.Common.{◌≡◌, ℕ, Bool, true, false, refl, ap, sym, ◌∙◌, subst, inl, inr, List, [], ◌∷◌, ◌++◌, length, replicate, suc, Option, Some, None, if◌then◌else◌}
use Rattle.fak_model.specs.declared.note.Note.{Note}
use Rattle.fak_model.specs.declared.note.NoteKind.{NoteKind}
use Rattle.fak_model.specs.declared.note.Sign.TheVariants.{FallsAsleep, TakesBack, FindsBit}
use Rattle.fak_model.specs.declared.queue.Mark.{Mark}
use Rattle.fak_model.specs.Calls.{SeatInfo}
use Rattle.fak_model.specs.Queue.{items_put, item_at}
use Rattle.fak_channel_core.specs.SleeperMoves.{Account}
use Rattle.fak_queue.specs.Drained.{IsDrained}
use Rattle.fak_queue.specs.Queues.{Makes, Fills, Takes, ShutsAs, drawn_by}
use Rattle.fak_queue.specs.SleeperRest.{marks_by}
use Rattle.fak_queue.specs.Sleepers.{as_role}
use Rattle.fak_queue.specs.declared.role.Role.{Role}
use Rattle.fak_queue.specs.declared.role.Role.TheVariants.{Sender, Receiver}
use Rattle.fak_queue.proofs.Accounts.{kinds_after}
use Rattle.fak_queue.specs.SleeperSeats.{SleeperInfo, account_of_seat, AddsNote, AddsNoNote, TakesBit, ChecksDrained, note_of}
use Rattle.fak_channel.specs.declared.channel.Channel.{Channel}
use Rattle.fak_channel.specs.declared.seat.ChannelSeat.{ChannelSeat}
use Rattle.fak_channel.specs.declared.standing.CallStanding.{CallStanding}
use Rattle.fak_channel.specs.declared.standing.ChannelStep.{ChannelStep}
use Rattle.fak_channel.specs.declared.standing.ChannelStep.TheVariants.{GoesOn, NotYet, Sleeps, Wakes, Ends}
use Rattle.fak_channel.specs.declared.standing.Next.{Next}
use Rattle.fak_channel.specs.declared.standing.Next.TheVariants.{Idle, Claiming, Inserting, Deleting, Checking, Registering, Testing, TestingDrained, TakingBack, Sleeping, Refusing, Refused, Shutting, Ending}
use Rattle.fak_channel.specs.declared.standing.Outcome.{Outcome}
use Rattle.fak_channel.specs.declared.standing.Outcome.TheVariants as outcome
use Rattle.fak_channel.specs.declared.standing.Wish.{Wish}
use Rattle.fak_channel.specs.declared.standing.Wish.TheVariants.{Send, Receive}
use Rattle.fak_channel.specs.Standings.{IsStepSeatOf, StandsSo, OwesNone, role_of, ticket_in}
use Rattle.fak_channel.specs.Moves.{Look, Check, None_owed, looks_for, with_next, checked, refused_next, Calls, LoadsWord, passes, goes_round, finds, ClearsBit, LooksOnce, ClaimsRoom, room_granted, found_full, found_closed, ClaimsItem, item_granted, found_empty, FillsCell, WaitsForRoom, TakesItem, WaitsForItem, ChecksEmpty, found_drained, found_none, TestsRoom, sender_sleeps, room_came, TestsItem, no_item_yet, item_came, TestsDrained, receiver_sleeps, drained_meanwhile, OnlyStands, ShutsQueue, MovesNext, ChecksOnce, MovesBy, Moves}
use Rattle.fak_channel.specs.Channels.{NotesMore, HasFallenAsleep, HasTakenBack, slept}
use Rattle.fak_channel.specs.Marks.{Looked, HasFoundFull, HasFoundEmpty, WasNotDrained}
use Rattle.fak_channel.specs.ChannelSteps.{Asked, Sending, Receiving, Closing, WaitsSince, RefusedSince, TriedSince, InsertsAs, DeletesAs, ShutsSince, EndsAs, SinceAt, CallSince, StepsTo}
use Rattle.fak_channel.proofs.Marking.{looked_more, put_on, full_again, full_more, empty_again, empty_more, claimed_in, looked_in, claimed_out, looked_out, deleted_out, inserted_at_last, closed_at_last}

-- ---- notes

module _ {T : Type 0} (old mid new : SleeperInfo T) where
  notes_on : (x : Note) → new.notes ≡ x ∷ mid.notes → NotesMore old mid → NotesMore old new
  notes_on x is m = (x ∷ m.0, is ∙ ap (λ (l : List Note). x ∷ l) m.1)

  notes_same : new.notes ≡ mid.notes → NotesMore old mid → NotesMore old new
  notes_same is m = (m.0, is ∙ m.1)

module _ {T : Type 0} (old new : SleeperInfo T) where
  -- a step that leaves no mark leaves the number of marks, so a note of this kind would be the same
  note_same : {size : ℕ} (k : NoteKind) → Makes size [] old.seat new.seat → note_of k old ≡ note_of k new
  note_same {size} k makes =
      let same : marks_by new.seat ≡ marks_by old.seat = ap length (kinds_after size [] old.seat new.seat makes) in
      ap (λ (n : ℕ). let x : Note = record { kind = k; after = n } in x) (sym same)

module _ {T : Type 0} {size : ℕ} (role : Role) (began old new : SleeperInfo T) where
  note_kept : (k : NoteKind) (rest : List Note) → Makes size [] old.seat new.seat → note_of k old ∷ rest ≡ note_of k new ∷ rest
  note_kept k rest makes = ap (λ (x : Note). x ∷ rest) (note_same old new k makes)

  -- it falls asleep
  fallen : AddsNote size (as_role role FallsAsleep) old new → NotesMore began old → HasFallenAsleep role began new
  fallen l m = record {
    more = m.0;
    loads = 0;
    notes = l.notes_are ∙ (note_kept (as_role role FallsAsleep) old.notes l.makes ∙ ap (λ (rest : List Note). note_of (as_role role FallsAsleep) new ∷ rest) m.1);
  }

  -- a step that leaves no mark does not change what its sleep has noted
  slept_same : Makes size [] old.seat new.seat → (loads : ℕ) (before : List Note) → slept role loads old before ≡ slept role loads new before
  slept_same makes loads before =
      let name : new.seat.name ≡ old.seat.name = ap (λ (s : SeatInfo (Mark T)). s.name) makes.same_seat in
      let found = ap (λ (k : ℕ). note_of (as_role role (FindsBit k true)) old) (sym name) ∙ note_same old new (as_role role (FindsBit new.seat.name true)) makes in
      ap (λ (x : Note). replicate loads x ++ (note_of (as_role role FallsAsleep) old ∷ before)) found
      ∙ ap (λ (x : Note). replicate loads (note_of (as_role role (FindsBit new.seat.name true)) new) ++ (x ∷ before)) (note_same old new (as_role role FallsAsleep) makes)

  -- it still sleeps
  sleeps_on : AddsNote size (as_role role (FindsBit old.seat.name true)) old new → HasFallenAsleep role began old → HasFallenAsleep role began new
  sleeps_on l h = record {
    more = h.more;
    loads = suc h.loads;
    notes = l.notes_are ∙ (ap (λ (rest : List Note). note_of (as_role role (FindsBit old.seat.name true)) old ∷ rest) h.notes ∙ slept_same l.makes (suc h.loads) (h.more ++ began.notes));
  }

  -- it takes its bit back
  pub taken_back : AddsNote size (as_role role TakesBack) old new → HasFallenAsleep role began old → HasTakenBack role began new
  taken_back l h = record {
    more = h.more;
    loads = h.loads;
    notes = l.notes_are ∙ (note_kept (as_role role TakesBack) old.notes l.makes
        ∙ ap (λ (rest : List Note). note_of (as_role role TakesBack) new ∷ rest) (h.notes ∙ slept_same l.makes h.loads (h.more ++ began.notes)));
  }

module _ {T : Type 0} (size : ℕ) (asked : Asked T) (began old new : ChannelSeat T) where
  -- ---- steps that leave no mark

  module _ (makes : Makes size [] old.queue.seat new.queue.seat) where
    pub refused_on : (w : Wish T) → drawn_by new.queue.seat ≡ drawn_by old.queue.seat → RefusedSince size asked began w old → RefusedSince size asked began w new
    refused_on w drawn h = by asked w h
      where
        by : (a : Asked T) (w : Wish T) → RefusedSince size a began w old → RefusedSince size a began w new
        by (Sending x) (Send y) p = (p.0, full_more p.1 drawn makes)
        by (Sending x) Receive p = absurd p
        by Receiving (Send y) p = absurd p
        by Receiving Receive p = empty_more p makes
        by Closing w p = absurd p

    -- the same of a try
    tried_on : (w : Wish T) → drawn_by new.queue.seat ≡ drawn_by old.queue.seat → TriedSince size asked began w old → TriedSince size asked began w new
    tried_on (Send y) drawn h = refused_on (Send y) drawn h
    tried_on Receive drawn h = (refused_on Receive drawn h.0, record { found = h.1.found; empty = h.1.empty; not_drained = h.1.not_drained; looks = looked_more h.1.looks makes })

    ended_on : (o : Outcome T) → EndsAs size asked o began old → EndsAs size asked o began new
    ended_on o h = by asked o h
      where
        by : (a : Asked T) (o : Outcome T) → EndsAs size a o began old → EndsAs size a o began new
        by (Sending x) outcome.Sent p = record { ticket = p.ticket; sent = p.sent; inserts = p.inserts; looks = looked_more p.looks makes; put = put_on p.ticket x makes p.put }
        by (Sending x) (outcome.Refused y) p = (p.0, record { found = p.1.found; closes = p.1.closes; looks = looked_more p.1.looks makes })
        by (Sending x) (outcome.Received y) p = absurd p
        by (Sending x) outcome.Drained p = absurd p
        by (Sending x) outcome.Worn p = absurd p
        by (Sending x) outcome.Closed p = absurd p
        by (Sending x) outcome.WasClosed p = absurd p
        by Receiving outcome.Sent p = absurd p
        by Receiving (outcome.Refused y) p = absurd p
        by Receiving (outcome.Received x) p = record { began = p.began; empty = p.empty; ticket = p.ticket; taken = p.taken; deletes = p.deletes; looks = looked_more p.looks makes }
        by Receiving outcome.Drained p = record { found = p.found; empty = p.empty; lawful = p.lawful; drained = p.drained; looks = looked_more p.looks makes }
        by Receiving outcome.Worn p = absurd p
        by Receiving outcome.Closed p = absurd p
        by Receiving outcome.WasClosed p = absurd p
        by Closing outcome.Sent p = absurd p
        by Closing (outcome.Refused y) p = absurd p
        by Closing (outcome.Received x) p = absurd p
        by Closing outcome.Drained p = absurd p
        by Closing outcome.Worn p = absurd p
        by Closing outcome.Closed p = record { shut = p.shut; shuts = p.shuts; looks = looked_more p.looks makes }
        by Closing outcome.WasClosed p = record { shut = p.shut; shuts = p.shuts; looks = looked_more p.looks makes }

    -- while a debt is paid
    owing_since : (n : Next T) (s : CallStanding T) (q : SleeperInfo T) (g : Account) → drawn_by new.queue.seat ≡ drawn_by old.queue.seat → (OwesNone s → ⊥) → StandsSo n s q g → SinceAt size n asked began old → SinceAt size n asked began new
    owing_since Idle s q g drawn owes so h = absurd (owes so.none)
    owing_since (Claiming w) s q g drawn owes so h = absurd (owes so.none)
    owing_since Inserting s q g drawn owes so h = absurd (owes so.none)
    owing_since Deleting s q g drawn owes so h = absurd (owes so.none)
    owing_since Checking s q g drawn owes so h = refused_on Receive drawn h
    owing_since (Registering w) s q g drawn owes so h = refused_on w drawn h
    owing_since (Testing w) s q g drawn owes so h = absurd (owes so.stands.none)
    owing_since TestingDrained s q g drawn owes so h = absurd (owes so.stands.none)
    owing_since (TakingBack w) s q g drawn owes so h = absurd (owes so.stands.none)
    owing_since (Sleeping w) s q g drawn owes so h = absurd (owes so.stands.none)
    owing_since (Refusing w) s q g drawn owes so h = tried_on w drawn h
    owing_since (Refused w) s q g drawn owes so h = absurd (owes so.stands.none)
    owing_since Shutting s q g drawn owes so h = absurd (owes so.none)
    owing_since (Ending o) s q g drawn owes so h = ended_on o h

-- ---- the steps

both_of : {A : Type 0} {b : Bool} → b ≡ true → b ≡ false → A
both_of {A} {b} is is_not = absurd (let f : true ≡ false = sym is ∙ is_not in cc)

module _ {T : Type 0} (c : Channel T) (asked : Asked T) (began old new : ChannelSeat T) (since : CallSince c.queue.size asked began old) where
  abbrev size : ℕ
  size = c.queue.size

  abbrev s : CallStanding T
  s = old.standing

  -- the call has come this far
  by_standing : (after : CallStanding T) → new.standing ≡ after → NotesMore began.queue new.queue → SinceAt size after.next asked began new → CallSince size asked began new
  by_standing after stands notes h = record { notes = notes; since = subst (λ (t : CallStanding T). SinceAt size t.next asked began new) (sym stands) h }

  signed : {k : NoteKind} → AddsNote size k old.queue new.queue → NotesMore began.queue new.queue
  signed {k} l = notes_on began.queue old.queue new.queue (note_of k old.queue) l.notes_are since.notes

  heard : AddsNoNote size old.queue new.queue → NotesMore began.queue new.queue
  heard l = notes_same began.queue old.queue new.queue l.notes_are since.notes

  called : Calls size old.queue new.queue → NotesMore began.queue new.queue
  called calls = notes_same began.queue old.queue new.queue calls.notes.notes since.notes

  -- ---- debts

  module _ (q : SleeperInfo T) (g : Account) (so : StandsSo s.next s q g) where
    look_since : (role : Role) → (looks_for role s).is_owed ≡ true → LoadsWord c.ends size role (looks_for role s) old new → CallSince size asked began new
    look_since Sender owed (passes l stands) = by_standing _ stands (signed l) (owing_since size asked began old new l.makes s.next s q g l.left (λ o. both_of owed o.senders) so since.since)
    look_since Sender owed (goes_round found l some at stands) = by_standing _ stands (signed l) (owing_since size asked began old new l.makes s.next s q g l.left (λ o. both_of owed o.senders) so since.since)
    look_since Sender owed (finds k found l at stands) = by_standing _ stands (signed l) (owing_since size asked began old new l.makes s.next s q g l.left (λ o. both_of owed o.senders) so since.since)
    look_since Receiver owed (passes l stands) = by_standing _ stands (signed l) (owing_since size asked began old new l.makes s.next s q g l.left (λ o. both_of owed o.receivers) so since.since)
    look_since Receiver owed (goes_round found l some at stands) = by_standing _ stands (signed l) (owing_since size asked began old new l.makes s.next s q g l.left (λ o. both_of owed o.receivers) so since.since)
    look_since Receiver owed (finds k found l at stands) = by_standing _ stands (signed l) (owing_since size asked began old new l.makes s.next s q g l.left (λ o. both_of owed o.receivers) so since.since)

    clear_since : (role : Role) (k : ℕ) (r : ChannelStep T) → (looks_for role s).is_owed ≡ true → ClearsBit c.ends size role (looks_for role s) old new k r → StepsTo size asked began new r
    clear_since Sender k GoesOn owed m = by_standing _ m.1 (signed m.0) (owing_since size asked began old new m.0.makes s.next s q g m.0.left (λ o. both_of owed o.senders) so since.since)
    clear_since Receiver k GoesOn owed m = by_standing _ m.1 (signed m.0) (owing_since size asked began old new m.0.makes s.next s q g m.0.left (λ o. both_of owed o.receivers) so since.since)
    clear_since role k NotYet owed m = absurd m
    clear_since role k Sleeps owed m = absurd m
    clear_since Sender k (Wakes number) owed m = by_standing _ m.2 (signed m.1) (owing_since size asked began old new m.1.makes s.next s q g m.1.left (λ o. both_of owed o.senders) so since.since)
    clear_since Receiver k (Wakes number) owed m = by_standing _ m.2 (signed m.1) (owing_since size asked began old new m.1.makes s.next s q g m.1.left (λ o. both_of owed o.receivers) so since.since)
    clear_since role k (Ends o) owed m = absurd m

    looks_since : (role : Role) (found : Option ℕ) (r : ChannelStep T) → (looks_for role s).is_owed ≡ true → LooksOnce c.ends size role (looks_for role s) old new found r → StepsTo size asked began new r
    looks_since role None GoesOn owed m = look_since role owed m
    looks_since role None NotYet owed m = absurd m
    looks_since role None Sleeps owed m = absurd m
    looks_since role None (Wakes number) owed m = absurd m
    looks_since role None (Ends o) owed m = absurd m
    looks_since role (Some k) r owed m = clear_since role k r owed m

    check_since : (r : ChannelStep T) → s.checks ≡ true → ChecksOnce c old new r → StepsTo size asked began new r
    check_since GoesOn owed m = by m.drained m.checks m.stands
      where
        by : (drained : Bool) → ChecksDrained size drained old.queue new.queue → new.standing ≡ checked c.ends drained s → CallSince size asked began new
        by true l stands = by_standing _ stands (signed l.0) (owing_since size asked began old new l.0.makes s.next s q g l.0.left (λ o. both_of owed o.checks) so since.since)
        by false l stands = by_standing _ stands (signed l.0) (owing_since size asked began old new l.0.makes s.next s q g l.0.left (λ o. both_of owed o.checks) so since.since)
    check_since NotYet owed m = absurd m
    check_since Sleeps owed m = absurd m
    check_since (Wakes number) owed m = absurd m
    check_since (Ends o) owed m = absurd m

  -- ---- what comes next

  -- a refused call either is a try or sets its bit
  refused_to : (w : Wish T) → RefusedSince size asked began w new → TriedSince size asked began w new → SinceAt size (refused_next s w) asked began new
  refused_to w h tried = by s.tries
    where
      by : (tries : Bool) → SinceAt size (if tries then Refusing w else Registering w) asked began new
      by true = tried
      by false = h

  room_since : (x : T) → WaitsSince size asked began (Send x) old → ClaimsRoom c old new x → CallSince size asked began new
  room_since x h (room_granted k calls state claims stands) = by_standing _ stands (called calls) (by asked h)
    where
      by : (a : Asked T) → WaitsSince size a began (Send x) old → InsertsAs size a began new
      by (Sending y) p = subst (λ (z : T). InsertsAs size (Sending z) began new) p.0 (record { before = old.queue.seat; full = p.1; ticket = k; claimed = claimed_in claims; state = state })
      by Receiving p = absurd p
      by Closing p = absurd p
  room_since x h (found_full upper withdraws was refuses makes stands) = by_standing _ stands (called was.calls) (let refused = by asked h in refused_to (Send x) refused refused)
    where
      by : (a : Asked T) → WaitsSince size a began (Send x) old → RefusedSince size a began (Send x) new
      by (Sending y) p = (p.0, full_again p.1 was.within was.drawn refuses)
      by Receiving p = absurd p
      by Closing p = absurd p
  room_since x h (found_closed was refuses stands) = by_standing _ stands (called was.calls) (by asked h)
    where
      by : (a : Asked T) → WaitsSince size a began (Send x) old → EndsAs size a (outcome.Refused x) began new
      by (Sending y) p = (p.0, record { found = new.queue.seat; closes = closed_at_last p.1 was.within refuses; looks = inl refl })
      by Receiving p = absurd p
      by Closing p = absurd p

  item_since : WaitsSince size asked began Receive old → ClaimsItem c old new → CallSince size asked began new
  item_since h (item_granted k calls state claims stands) = by_standing _ stands (called calls) (by asked h)
    where
      by : (a : Asked T) → WaitsSince size a began Receive old → DeletesAs size a began new
      by (Sending y) p = absurd p
      by Receiving p = record { before = old.queue.seat; empty = p; ticket = k; claimed = claimed_out claims; state = state }
      by Closing p = absurd p
  item_since h (found_empty lower withdraws was refuses makes stands) = by_standing _ stands (called was.calls) (by asked h)
    where
      by : (a : Asked T) → WaitsSince size a began Receive old → RefusedSince size a began Receive new
      by (Sending y) p = absurd p
      by Receiving p = empty_again p was.within refuses
      by Closing p = absurd p

  filled_since : InsertsAs size asked began old → FillsCell c old new → CallSince size asked began new
  filled_since h m = by_standing _ m.stands (called m.calls) (by asked h)
    where
      by : (a : Asked T) → InsertsAs size a began old → EndsAs size a outcome.Sent began new
      by (Sending y) p =
          let inserts = inserted_at_last p.full p.claimed (subst (λ (k : ℕ). Fills size k old.queue.seat new.queue.seat) (ap ticket_in p.state) m.fills) in
          record { ticket = p.ticket; sent = new.queue.seat; inserts = inserts; looks = inl refl; put = inserts.put }
      by Receiving p = absurd p
      by Closing p = absurd p

  room_waits_since : s.next ≡ Inserting → InsertsAs size asked began old → WaitsForRoom c old new → CallSince size asked began new
  room_waits_since is h m = by_standing s m.stands (called m.calls) (subst (λ (x : Next T). SinceAt size x asked began new) (sym is) (by asked h))
    where
      by : (a : Asked T) → InsertsAs size a began old → InsertsAs size a began new
      by (Sending y) p = record { before = p.before; full = p.full; ticket = p.ticket; claimed = looked_in p.claimed m.waits.makes; state = m.same ∙ p.state }
      by Receiving p = absurd p
      by Closing p = absurd p

  taken_since : DeletesAs size asked began old → TakesItem c old new → CallSince size asked began new
  taken_since h m = by_standing _ m.stands (called m.calls) (by asked h)
    where
      by : (a : Asked T) → DeletesAs size a began old → EndsAs size a (outcome.Received m.item) began new
      by (Sending y) p = absurd p
      by Receiving p = record { began = p.before; empty = p.empty; ticket = p.ticket; taken = new.queue.seat; deletes = deleted_out p.claimed (subst (λ (k : ℕ). Takes size k m.item old.queue.seat new.queue.seat) (ap ticket_in p.state) m.takes); looks = inl refl }
      by Closing p = absurd p

  item_waits_since : s.next ≡ Deleting → DeletesAs size asked began old → WaitsForItem c old new → CallSince size asked began new
  item_waits_since is h m = by_standing s m.stands (called m.calls) (subst (λ (x : Next T). SinceAt size x asked began new) (sym is) (by asked h))
    where
      by : (a : Asked T) → DeletesAs size a began old → DeletesAs size a began new
      by (Sending y) p = absurd p
      by Receiving p = record { before = p.before; empty = p.empty; ticket = p.ticket; claimed = looked_out p.claimed m.waits.makes; state = m.same ∙ p.state }
      by Closing p = absurd p

  -- a check has not found the queue drained
  not_drained_since : RefusedSince size asked began Receive new → (IsDrained new.queue.seat.seen → ⊥) → TriedSince size asked began Receive new
  not_drained_since h not_drained = (h, by asked h)
    where
      by : (a : Asked T) → RefusedSince size a began Receive new → WasNotDrained size began.queue.seat new.queue.seat
      by (Sending y) p = absurd p
      by Receiving p = record { found = new.queue.seat; empty = p; not_drained = not_drained; looks = inl refl }
      by Closing p = absurd p

  empty_since : RefusedSince size asked began Receive old → ChecksEmpty c old new → CallSince size asked began new
  empty_since h (found_drained l stands) = by_standing _ stands (signed l.0) (by asked (refused_on size asked began old new l.0.makes Receive l.0.left h))
    where
      by : (a : Asked T) → RefusedSince size a began Receive new → EndsAs size a outcome.Drained began new
      by (Sending y) p = absurd p
      by Receiving p = record { found = new.queue.seat; empty = p; lawful = l.0.makes.lawful; drained = l.1; looks = inl refl }
      by Closing p = absurd p
  empty_since h (found_none l stands) =
      let refused = refused_on size asked began old new l.0.makes Receive l.0.left h in
      by_standing _ stands (signed l.0) (refused_to Receive refused (not_drained_since refused l.1))

  room_test_since : (x : T) → RefusedSince size asked began (Send x) old → TestsRoom c old new x → CallSince size asked began new
  room_test_since x h (sender_sleeps upper l full stands) = by_standing _ stands (signed l) (refused_on size asked began old new l.makes (Send x) l.left h, fallen Sender began.queue old.queue new.queue l since.notes)
  room_test_since x h (room_came l why stands) = by_standing _ stands (heard l) (refused_on size asked began old new l.makes (Send x) l.left h)

  item_test_since : RefusedSince size asked began Receive old → TestsItem c old new → CallSince size asked began new
  item_test_since h (no_item_yet lower l empty stands) = by_standing _ stands (signed l) (refused_on size asked began old new l.makes Receive l.left h)
  item_test_since h (item_came l why stands) = by_standing _ stands (heard l) (refused_on size asked began old new l.makes Receive l.left h)

  drained_test_since : RefusedSince size asked began Receive old → TestsDrained c old new → CallSince size asked began new
  drained_test_since h (receiver_sleeps l undrained stands) = by_standing _ stands (signed l) (refused_on size asked began old new l.makes Receive l.left h, fallen Receiver began.queue old.queue new.queue l since.notes)
  drained_test_since h (drained_meanwhile l why stands) = by_standing _ stands (heard l) (refused_on size asked began old new l.makes Receive l.left h)

  -- a refused call claims again
  waits_again : (w : Wish T) → RefusedSince size asked began w new → WaitsSince size asked began w new
  waits_again w h = by asked w h
    where
      by : (a : Asked T) (w : Wish T) → RefusedSince size a began w new → WaitsSince size a began w new
      by (Sending x) (Send y) p = (p.0, inr p.1)
      by (Sending x) Receive p = absurd p
      by Receiving (Send y) p = absurd p
      by Receiving Receive p = inr p
      by Closing w p = absurd p

  tried_refused : (w : Wish T) → TriedSince size asked began w old → RefusedSince size asked began w old
  tried_refused (Send y) h = h
  tried_refused Receive h = h.0

  own_since : (w : Wish T) (was_set : Bool) → RefusedSince size asked began w old → TakesBit size (role_of w) was_set old.queue new.queue → new.standing ≡ with_next (Claiming w) s → CallSince size asked began new
  own_since w true h l stands = by_standing _ stands (signed l) (waits_again w (refused_on size asked began old new l.makes w l.left h))
  own_since w false h l stands = by_standing _ stands (signed l) (waits_again w (refused_on size asked began old new l.makes w l.left h))

  -- nothing but the standing changes
  module _ (same : new.queue ≡ old.queue) where
    seat_same : new.queue.seat ≡ old.queue.seat
    seat_same = ap (λ (q : SleeperInfo T). q.seat) same

    pub only_refused : (w : Wish T) → RefusedSince size asked began w old → RefusedSince size asked began w new
    only_refused w h = by asked w h
      where
        by : (a : Asked T) (w : Wish T) → RefusedSince size a began w old → RefusedSince size a began w new
        by (Sending x) (Send y) p = (p.0, subst (HasFoundFull size began.queue.seat) (sym seat_same) p.1)
        by (Sending x) Receive p = absurd p
        by Receiving (Send y) p = absurd p
        by Receiving Receive p = subst (HasFoundEmpty size began.queue.seat) (sym seat_same) p
        by Closing w p = absurd p

    pub only_tried : (w : Wish T) → TriedSince size asked began w old → TriedSince size asked began w new
    only_tried (Send y) h = only_refused (Send y) h
    only_tried Receive h = (only_refused Receive h.0, subst (WasNotDrained size began.queue.seat) (sym seat_same) h.1)

    only_ended : (o : Outcome T) → EndsAs size asked o began old → EndsAs size asked o began new
    only_ended o h = by asked o h
      where
        by : (a : Asked T) (o : Outcome T) → EndsAs size a o began old → EndsAs size a o began new
        by (Sending x) outcome.Sent p = record { ticket = p.ticket; sent = p.sent; inserts = p.inserts; looks = subst (Looked size p.sent) (sym seat_same) p.looks; put = subst (λ (s : SeatInfo (Mark T)). item_at (items_put s.seen) p.ticket ≡ Some x) (sym seat_same) p.put }
        by (Sending x) (outcome.Refused y) p = (p.0, record { found = p.1.found; closes = p.1.closes; looks = subst (Looked size p.1.found) (sym seat_same) p.1.looks })
        by (Sending x) (outcome.Received y) p = absurd p
        by (Sending x) outcome.Drained p = absurd p
        by (Sending x) outcome.Worn p = absurd p
        by (Sending x) outcome.Closed p = absurd p
        by (Sending x) outcome.WasClosed p = absurd p
        by Receiving outcome.Sent p = absurd p
        by Receiving (outcome.Refused y) p = absurd p
        by Receiving (outcome.Received x) p = record { began = p.began; empty = p.empty; ticket = p.ticket; taken = p.taken; deletes = p.deletes; looks = subst (Looked size p.taken) (sym seat_same) p.looks }
        by Receiving outcome.Drained p = record { found = p.found; empty = p.empty; lawful = p.lawful; drained = p.drained; looks = subst (Looked size p.found) (sym seat_same) p.looks }
        by Receiving outcome.Worn p = absurd p
        by Receiving outcome.Closed p = absurd p
        by Receiving outcome.WasClosed p = absurd p
        by Closing outcome.Sent p = absurd p
        by Closing (outcome.Refused y) p = absurd p
        by Closing (outcome.Received x) p = absurd p
        by Closing outcome.Drained p = absurd p
        by Closing outcome.Worn p = absurd p
        by Closing outcome.Closed p = record { shut = p.shut; shuts = p.shuts; looks = subst (Looked size p.shut) (sym seat_same) p.looks }
        by Closing outcome.WasClosed p = record { shut = p.shut; shuts = p.shuts; looks = subst (Looked size p.shut) (sym seat_same) p.looks }

  only_since : (next : Next T) → OnlyStands c old new (with_next next s) → SinceAt size next asked began new → CallSince size asked began new
  only_since next m h = by_standing (with_next next s) m.stands (subst (NotesMore began.queue) (sym m.same) since.notes) h

  shut_since : ShutsSince size asked began old → ShutsQueue c old new → CallSince size asked began new
  shut_since h m = by_standing _ m.stands (called m.calls) (by asked m.was_open h m.shuts)
    where
      by : (a : Asked T) (was_open : Bool) → ShutsSince size a began old → ShutsAs size was_open old.queue.seat new.queue.seat → EndsAs size a (if was_open then outcome.Closed else outcome.WasClosed) began new
      by (Sending y) was_open p h = absurd p
      by Receiving was_open p h = absurd p
      by Closing true p h = record { shut = new.queue.seat; shuts = subst (λ (q : SeatInfo (Mark T)). ShutsAs size true q new.queue.seat) p h; looks = inl refl }
      by Closing false p h = record { shut = new.queue.seat; shuts = subst (λ (q : SeatInfo (Mark T)). ShutsAs size false q new.queue.seat) p h; looks = inl refl }

  next_since : (x : Next T) (r : ChannelStep T) → s.next ≡ x → SinceAt size x asked began old → MovesNext c old new x r → StepsTo size asked began new r
  next_since Idle r is h m = absurd m
  next_since (Claiming (Send x)) GoesOn is h m = room_since x h m
  next_since (Claiming Receive) GoesOn is h m = item_since h m
  next_since (Claiming (Send x)) NotYet is h m = absurd m
  next_since (Claiming Receive) NotYet is h m = absurd m
  next_since (Claiming (Send x)) Sleeps is h m = absurd m
  next_since (Claiming Receive) Sleeps is h m = absurd m
  next_since (Claiming (Send x)) (Wakes k) is h m = absurd m
  next_since (Claiming Receive) (Wakes k) is h m = absurd m
  next_since (Claiming (Send x)) (Ends o) is h m = absurd m
  next_since (Claiming Receive) (Ends o) is h m = absurd m
  next_since Inserting GoesOn is h m = filled_since h m
  next_since Inserting NotYet is h m = room_waits_since is h m
  next_since Inserting Sleeps is h m = absurd m
  next_since Inserting (Wakes k) is h m = absurd m
  next_since Inserting (Ends o) is h m = absurd m
  next_since Deleting GoesOn is h m = taken_since h m
  next_since Deleting NotYet is h m = item_waits_since is h m
  next_since Deleting Sleeps is h m = absurd m
  next_since Deleting (Wakes k) is h m = absurd m
  next_since Deleting (Ends o) is h m = absurd m
  next_since Checking GoesOn is h m = empty_since h m
  next_since Checking NotYet is h m = absurd m
  next_since Checking Sleeps is h m = absurd m
  next_since Checking (Wakes k) is h m = absurd m
  next_since Checking (Ends o) is h m = absurd m
  next_since (Registering w) GoesOn is h m = by_standing _ m.stands (signed m.signs) (refused_on size asked began old new m.signs.makes w m.signs.left h)
  next_since (Registering w) NotYet is h m = absurd m
  next_since (Registering w) Sleeps is h m = absurd m
  next_since (Registering w) (Wakes k) is h m = absurd m
  next_since (Registering w) (Ends o) is h m = absurd m
  next_since (Testing (Send x)) GoesOn is h m = room_test_since x h m
  next_since (Testing Receive) GoesOn is h m = item_test_since h m
  next_since (Testing (Send x)) NotYet is h m = absurd m
  next_since (Testing Receive) NotYet is h m = absurd m
  next_since (Testing (Send x)) Sleeps is h m = absurd m
  next_since (Testing Receive) Sleeps is h m = absurd m
  next_since (Testing (Send x)) (Wakes k) is h m = absurd m
  next_since (Testing Receive) (Wakes k) is h m = absurd m
  next_since (Testing (Send x)) (Ends o) is h m = absurd m
  next_since (Testing Receive) (Ends o) is h m = absurd m
  next_since TestingDrained GoesOn is h m = drained_test_since h m
  next_since TestingDrained NotYet is h m = absurd m
  next_since TestingDrained Sleeps is h m = absurd m
  next_since TestingDrained (Wakes k) is h m = absurd m
  next_since TestingDrained (Ends o) is h m = absurd m
  next_since (TakingBack w) GoesOn is h m = own_since w m.was_set h m.takes m.stands
  next_since (TakingBack w) NotYet is h m = absurd m
  next_since (TakingBack w) Sleeps is h m = absurd m
  next_since (TakingBack w) (Wakes k) is h m = absurd m
  next_since (TakingBack w) (Ends o) is h m = absurd m
  next_since (Sleeping w) GoesOn is h m = own_since w false h.0 m.signs m.stands
  next_since (Sleeping w) NotYet is h m = absurd m
  next_since (Sleeping w) Sleeps is h m =
      by_standing s m.stands (signed m.signs) (subst (λ (x : Next T). SinceAt size x asked began new) (sym is) (refused_on size asked began old new m.signs.makes w m.signs.left h.0, sleeps_on (role_of w) began.queue old.queue new.queue m.signs h.1))
  next_since (Sleeping w) (Wakes k) is h m = absurd m
  next_since (Sleeping w) (Ends o) is h m = absurd m
  next_since (Refusing w) GoesOn is h m = absurd m
  next_since (Refusing w) NotYet is h m = absurd m
  next_since (Refusing w) Sleeps is h m = only_since (Refused w) m (only_tried m.same w h)
  next_since (Refusing w) (Wakes k) is h m = absurd m
  next_since (Refusing w) (Ends o) is h m = absurd m
  next_since (Refused w) GoesOn is h m = only_since (Claiming w) m (waits_again w (only_refused m.same w (tried_refused w h)))
  next_since (Refused w) NotYet is h m = absurd m
  next_since (Refused w) Sleeps is h m = absurd m
  next_since (Refused w) (Wakes k) is h m = absurd m
  next_since (Refused w) (Ends o) is h m = absurd m
  next_since Shutting GoesOn is h m = shut_since h m
  next_since Shutting NotYet is h m = absurd m
  next_since Shutting Sleeps is h m = absurd m
  next_since Shutting (Wakes k) is h m = absurd m
  next_since Shutting (Ends o) is h m = absurd m
  next_since (Ending o) GoesOn is h m = absurd m
  next_since (Ending o) NotYet is h m = absurd m
  next_since (Ending o) Sleeps is h m = absurd m
  next_since (Ending o) (Wakes k) is h m = absurd m
  next_since (Ending o) (Ends p) is h m = subst (λ (v : Outcome T). EndsAs size asked v began new) (sym m.0) (only_ended m.1.same o h)

-- a step of a call adds to what the call has done
pub moved_since : {T : Type 0} (c : Channel T) (old new : ChannelSeat T) → IsStepSeatOf c old → (r : ChannelStep T) → Moves c old new r → (asked : Asked T) (began : ChannelSeat T) → CallSince c.queue.size asked began old → StepsTo c.queue.size asked began new r
moved_since {T} c old new S r m asked began since = by old.standing.senders.is_owed old.standing.receivers.is_owed old.standing.checks refl refl refl m
  where
    by : (a b d : Bool) → old.standing.senders.is_owed ≡ a → old.standing.receivers.is_owed ≡ b → old.standing.checks ≡ d → MovesBy c old new (if a then Look Sender else (if b then Look Receiver else (if d then Check else None_owed))) r → StepsTo c.queue.size asked began new r
    by true b d ea eb ed m = looks_since c asked began old new since old.queue (account_of_seat old.queue) S.next Sender old.standing.senders.found r ea m
    by false true d ea eb ed m = looks_since c asked began old new since old.queue (account_of_seat old.queue) S.next Receiver old.standing.receivers.found r eb m
    by false false true ea eb ed m = check_since c asked began old new since old.queue (account_of_seat old.queue) S.next r ed m
    by false false false ea eb ed m = next_since c asked began old new since old.standing.next r refl since.since m
