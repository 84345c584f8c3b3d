-- A try sets no bit of its own, so it never sleeps.
use Rattle.std.proofs.Common.{◌≡◌, ℕ, Bool, true, false, refl, ap, sym, ◌∙◌, Option, Some, None, [], ◌∷◌, ◌++◌, append_assoc, if◌then◌else◌}
use Rattle.std.proofs.lemmas.List.Elements.{All-nil, All-cons, All-append}
use Rattle.fak_model.specs.declared.note.Note.{Note}
use Rattle.fak_model.specs.declared.note.NoteKind.{NoteKind}
use Rattle.fak_model.specs.declared.note.NoteKind.TheVariants.{Checks}
use Rattle.fak_model.specs.declared.note.Sign.{Sign}
use Rattle.fak_queue.specs.declared.role.Role.{Role}
use Rattle.fak_queue.specs.declared.role.Role.TheVariants.{Sender, Receiver}
use Rattle.fak_queue.specs.Sleepers.{as_role}
use Rattle.fak_queue.specs.SleeperSeats.{SleeperInfo, AddsNote, ChecksDrained, account_of_seat, note_of}
use Rattle.fak_channel.specs.declared.channel.Channel.{Channel}
use Rattle.fak_channel.specs.declared.seat.ChannelSeat.{ChannelSeat}
use Rattle.fak_channel.specs.declared.standing.ChannelStep.{ChannelStep}
use Rattle.fak_channel.specs.declared.standing.ChannelStep.TheVariants.{GoesOn, NotYet, Sleeps, Wakes, Ends}
use Rattle.fak_channel.specs.declared.standing.Looks.{Looks}
use Rattle.fak_channel.specs.declared.standing.Next.{Next}
use Rattle.fak_channel.specs.declared.standing.Next.TheVariants.{Idle, Claiming, Inserting, Deleting, Checking, Registering, Testing, TestingDrained, TakingBack, Sleeping, Refusing, Refused, Shutting, Ending}
use Rattle.fak_channel.specs.declared.standing.Wish.{Wish}
use Rattle.fak_channel.specs.declared.standing.Wish.TheVariants.{Send, Receive}
use Rattle.fak_channel.specs.Channels.{StaysAwake, registers, sets_bit}
use Rattle.fak_channel.specs.ChannelSteps.{KeepsAwake}
use Rattle.fak_channel.specs.Standings.{IsStepSeatOf, StandsSo}
use Rattle.fak_channel.specs.Moves.{Look, Check, None_owed, looks_for, LoadsWord, passes, goes_round, finds, ClearsBit, LooksOnce, ClaimsRoom, room_granted, found_full, found_closed, ClaimsItem, item_granted, found_empty, ChecksEmpty, found_drained, found_none, MovesNext, ChecksOnce, MovesBy, Moves, GivesUpAt}
use Rattle.fak_channel.proofs.Runs.{Continues}

abbrev IsFree : Note → Type 0
IsFree n = sets_bit n.kind ≡ false

module _ {T : Type 0} where
  pub same_notes : (old new : SleeperInfo T) → new.notes ≡ old.notes → StaysAwake old new
  same_notes old new same = record { more = []; notes = same; awake = All-nil IsFree }

  pub stays_on : (old mid new : SleeperInfo T) → StaysAwake old mid → StaysAwake mid new → StaysAwake old new
  stays_on old mid new a b = record {
    more = b.more ++ a.more;
    notes = b.notes ∙ (ap (λ rest. b.more ++ rest) a.notes ∙ sym (append_assoc b.more a.more old.notes));
    awake = All-append IsFree b.more a.more b.awake a.awake;
  }

in_role : (role : Role) (v : Sign) → registers v ≡ false → sets_bit (as_role role v) ≡ false
in_role Sender v e = e
in_role Receiver v e = e

-- ---- one step

module _ {T : Type 0} (c : Channel T) (old new : ChannelSeat T) where
  adds : {size : ℕ} (k : NoteKind) → sets_bit k ≡ false → AddsNote size k old.queue new.queue → StaysAwake old.queue new.queue
  adds k free l = record { more = note_of k old.queue ∷ []; notes = l.notes_are; awake = All-cons IsFree (note_of k old.queue) [] free (All-nil IsFree) }

  loaded : {ends size : ℕ} (role : Role) (l : Looks) → LoadsWord ends size role l old new → StaysAwake old.queue new.queue
  loaded role l (passes n stands) = adds _ (in_role role _ refl) n
  loaded role l (goes_round found n some at stands) = adds _ (in_role role _ refl) n
  loaded role l (finds k found n at stands) = adds _ (in_role role _ refl) n

  cleared : (ends size : ℕ) (role : Role) (l : Looks) (k : ℕ) (r : ChannelStep T) → ClearsBit ends size role l old new k r → StaysAwake old.queue new.queue
  cleared ends size role l k GoesOn m = adds _ (in_role role _ refl) m.0
  cleared ends size role l k NotYet m = absurd m
  cleared ends size role l k Sleeps m = absurd m
  cleared ends size role l k (Wakes number) m = adds _ (in_role role _ refl) m.1
  cleared ends size role l k (Ends o) m = absurd m

  looked : (ends size : ℕ) (role : Role) (l : Looks) (found : Option ℕ) (r : ChannelStep T) → LooksOnce ends size role l old new found r → StaysAwake old.queue new.queue
  looked ends size role l None GoesOn m = loaded role l m
  looked ends size role l None NotYet m = absurd m
  looked ends size role l None Sleeps m = absurd m
  looked ends size role l None (Wakes number) m = absurd m
  looked ends size role l None (Ends o) m = absurd m
  looked ends size role l (Some k) r m = cleared ends size role l k r m

  drained : (d : Bool) → ChecksDrained c.queue.size d old.queue new.queue → StaysAwake old.queue new.queue
  drained true m = adds (Checks true) refl m.0
  drained false m = adds (Checks false) refl m.0

  checked : (r : ChannelStep T) → ChecksOnce c old new r → StaysAwake old.queue new.queue
  checked GoesOn m = drained m.drained m.checks
  checked NotYet m = absurd m
  checked Sleeps m = absurd m
  checked (Wakes number) m = absurd m
  checked (Ends o) m = absurd m

  called : new.queue.notes ≡ old.queue.notes → StaysAwake old.queue new.queue
  called same = same_notes old.queue new.queue same

  room : (x : T) → ClaimsRoom c old new x → StaysAwake old.queue new.queue
  room x (room_granted k calls at claims stands) = called calls.notes.notes
  room x (found_full upper withdraws was refuses makes stands) = called was.calls.notes.notes
  room x (found_closed was refuses stands) = called was.calls.notes.notes

  item : ClaimsItem c old new → StaysAwake old.queue new.queue
  item (item_granted k calls at claims stands) = called calls.notes.notes
  item (found_empty lower withdraws was refuses makes stands) = called was.calls.notes.notes

  empty : ChecksEmpty c old new → StaysAwake old.queue new.queue
  empty (found_drained l stands) = drained true l
  empty (found_none l stands) = drained false l

  module _ (is_try : old.standing.tries ≡ true) where
    no_try : {A : Type 0} → old.standing.tries ≡ false → A
    no_try tries = absurd (let f : true ≡ false = sym is_try ∙ tries in cc)

    next : (x : Next T) (r : ChannelStep T) → StandsSo x old.standing old.queue (account_of_seat old.queue) → MovesNext c old new x r → StaysAwake old.queue new.queue
    next Idle r so m = absurd m
    next (Claiming (Send x)) GoesOn so m = room x m
    next (Claiming (Send x)) NotYet so m = absurd m
    next (Claiming (Send x)) Sleeps so m = absurd m
    next (Claiming (Send x)) (Wakes k) so m = absurd m
    next (Claiming (Send x)) (Ends p) so m = absurd m
    next (Claiming Receive) GoesOn so m = item m
    next (Claiming Receive) NotYet so m = absurd m
    next (Claiming Receive) Sleeps so m = absurd m
    next (Claiming Receive) (Wakes k) so m = absurd m
    next (Claiming Receive) (Ends p) so m = absurd m
    next Inserting GoesOn so m = called m.calls.notes.notes
    next Inserting NotYet so m = called m.calls.notes.notes
    next Inserting Sleeps so m = absurd m
    next Inserting (Wakes k) so m = absurd m
    next Inserting (Ends p) so m = absurd m
    next Deleting GoesOn so m = called m.calls.notes.notes
    next Deleting NotYet so m = called m.calls.notes.notes
    next Deleting Sleeps so m = absurd m
    next Deleting (Wakes k) so m = absurd m
    next Deleting (Ends p) so m = absurd m
    next Checking GoesOn so m = empty m
    next Checking NotYet so m = absurd m
    next Checking Sleeps so m = absurd m
    next Checking (Wakes k) so m = absurd m
    next Checking (Ends p) so m = absurd m
    next (Refusing w) GoesOn so m = absurd m
    next (Refusing w) NotYet so m = absurd m
    next (Refusing w) Sleeps so m = called (ap (λ (q : SleeperInfo T). q.notes) m.same)
    next (Refusing w) (Wakes k) so m = absurd m
    next (Refusing w) (Ends p) so m = absurd m
    next (Refused w) GoesOn so m = called (ap (λ (q : SleeperInfo T). q.notes) m.same)
    next (Refused w) NotYet so m = absurd m
    next (Refused w) Sleeps so m = absurd m
    next (Refused w) (Wakes k) so m = absurd m
    next (Refused w) (Ends p) so m = absurd m
    next Shutting GoesOn so m = called m.calls.notes.notes
    next Shutting NotYet so m = absurd m
    next Shutting Sleeps so m = absurd m
    next Shutting (Wakes k) so m = absurd m
    next Shutting (Ends p) so m = absurd m
    next (Ending o) GoesOn so m = absurd m
    next (Ending o) NotYet so m = absurd m
    next (Ending o) Sleeps so m = absurd m
    next (Ending o) (Wakes k) so m = absurd m
    next (Ending o) (Ends p) so m = called (ap (λ (q : SleeperInfo T). q.notes) m.1.same)
    next (Registering w) r so m = no_try so.tries
    next (Testing w) r so m = no_try so.tries
    next TestingDrained r so m = no_try so.tries
    next (TakingBack w) r so m = no_try so.tries
    next (Sleeping w) r so m = no_try so.tries

    pub moved_awake : IsStepSeatOf c old → (r : ChannelStep T) → Moves c old new r → StaysAwake old.queue new.queue
    moved_awake S r m = by old.standing.senders.is_owed old.standing.receivers.is_owed old.standing.checks m
      where
        by : (a b d : Bool) → MovesBy c old new (if a then Look Sender else (if b then Look Receiver else (if d then Check else None_owed))) r → StaysAwake old.queue new.queue
        by true b d m = looked c.ends c.queue.size Sender (looks_for Sender old.standing) old.standing.senders.found r m
        by false true d m = looked c.ends c.queue.size Receiver (looks_for Receiver old.standing) old.standing.receivers.found r m
        by false false true m = checked r m
        by false false false m = next old.standing.next r S.next m

    -- a try that is given up
    gave_up : (x : Next T) (r : Option (Wish T)) → StandsSo x old.standing old.queue (account_of_seat old.queue) → GivesUpAt c old new x r → StaysAwake old.queue new.queue
    gave_up Idle r so m = absurd m
    gave_up (Claiming w) r so m = absurd m
    gave_up Inserting r so m = absurd m
    gave_up Deleting r so m = absurd m
    gave_up Checking r so m = absurd m
    gave_up (Registering w) r so m = absurd m
    gave_up (Testing w) r so m = absurd m
    gave_up TestingDrained r so m = absurd m
    gave_up (TakingBack w) r so m = absurd m
    gave_up (Sleeping w) r so m = no_try so.tries
    gave_up (Refusing w) r so m = absurd m
    gave_up (Refused w) (Some v) so m = called (ap (λ (q : SleeperInfo T). q.notes) m.1.same)
    gave_up (Refused w) None so m = absurd m
    gave_up Shutting r so m = absurd m
    gave_up (Ending o) r so m = absurd m

    pub gave_up_awake : IsStepSeatOf c old → (r : Option (Wish T)) → GivesUpAt c old new old.standing.next r → StaysAwake old.queue new.queue
    gave_up_awake S r m = gave_up old.standing.next r S.next m

-- ---- runs of steps

pub begins_awake : {T : Type 0} (old : ChannelSeat T) → KeepsAwake old old
begins_awake old = λ is_try. same_notes old.queue old.queue refl

pub moved_on : {T : Type 0} (c : Channel T) (old mid new : ChannelSeat T) → Continues c old mid → KeepsAwake old mid → (r : ChannelStep T) → Moves c mid new r → KeepsAwake old new
moved_on c old mid new k keeps r m = λ is_try. stays_on old.queue mid.queue new.queue (keeps is_try) (moved_awake c mid new (k.tries ∙ is_try) k.stands r m)
