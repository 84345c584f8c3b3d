-- What a seat that can sleep keeps after a step on the bits and after a call on the queue, and what its callers see of both.
use Rattle.fak_model.specs.declared.note.Note.{Note}
use Rattle.fak_model.specs.declared.note.NoteKind.{NoteKind}
use Rattle.fak_model.specs.Views.{noting, with_note}
use Rattle.fak_core.specs.declared.queue.phase.Phase.TheVariants as phase
use Rattle.fak_channel_core.specs.SleeperMoves.{Account, after_note}
use Rattle.fak_queue.specs.Accounts.{account_of, kinds_by, AreWithin}
use Rattle.fak_queue.specs.BitSteps.{Notes, NotesNothing, note_by}
use Rattle.fak_queue.specs.SeatAccounts.{HasAccount, KnowsAccount}
use Rattle.fak_queue.specs.SeatParts.{PartsInfo, queue_parts}
use Rattle.fak_queue.specs.SleeperRest.{account_by, marks_by}
use Rattle.fak_queue.specs.StepTokens.{IsTokenOf, QueueToken, StandsAt}
use Rattle.fak_model.specs.Limits.{large_seats}
use Rattle.fak_queue.specs.SleeperSeats.{SleeperInfo, KnowsNotes, KeepsNotes, AddsNote, AddsNoNote, account_of_seat, note_of, notes_in, sleeper_info}
use Rattle.fak_queue.proofs.Common.{Alike, QueueLimits, QueueHolder, QueueInfo, queue_info, queue_object, IsQueue, IsQueueSeat, IsSeatToken, queue_seat, seat_of, Leaves, ◌≡◌, ◌≤◌, ℕ, ◌<◌, List, [], ◌∷◌, length, arith, refl, sym, ap, ◌∙◌, subst, reverse, reverse-reverse, Option, Some, Kind, Mark, Phase, TableId, ObjectId, SeatInfo, object_id, state_of, Idle, token_names}
use Rattle.fak_queue.proofs.Accounts.{account_made, within_upto}
use Rattle.fak_queue.proofs.Observations.{seat_observed, state_observed, drawn_observed, makes_observed, told_observed}
use Rattle.fak_queue.proofs.PartSteps.{noted_kept}
use Rattle.fak_queue.proofs.SeatAccounts.{has_account, knows_note, knows_still}
use Rattle.fak_queue.proofs.SeatCalls.{idle_now, idle_token, same_seats}

-- ---- what a token's view tells

twice : {T : Type 0} (n : ℕ) (m : QueueHolder T) → kinds_by n (reverse (reverse m.0.seen)) ≡ kinds_by n m.0.seen
twice n m = ap (kinds_by n) (reverse-reverse m.0.seen)

module _ {T : Type 0} (table : TableId) (seats name left : ℕ) (m : QueueHolder T) where
  -- the seat of this token
  abbrev pub Here : SleeperInfo T
  Here = sleeper_info (queue_parts (object_id table seats) name left m)

  knows_account : KnowsNotes (queue_parts (object_id table seats) name left m) → KnowsAccount seats name (account_of_seat Here) m
  knows_account K = record {
    notes = notes_in m.0.noted;
    known = K.known;
    within = subst (λ kinds. AreWithin (notes_in m.0.noted) (length kinds)) (twice name m) K.within;
    account = ap (account_of seats (notes_in m.0.noted)) (sym (twice name m));
  }

  module _ {g : Account} (K : KnowsAccount seats name g m) where
    known_notes : notes_in m.0.noted ≡ K.notes
    known_notes = ap notes_in K.known

    keeps_notes : KnowsNotes (queue_parts (object_id table seats) name left m)
    keeps_notes = record {
      known = K.known ∙ ap (λ (l : List Note). Some l) (sym known_notes);
      within = subst (λ (z : List Note × List (Kind T)). AreWithin z.0 (length z.1)) (λ i. (sym known_notes i, sym (twice name m) i)) K.within;
    }

    has_this : account_of_seat Here ≡ g
    has_this = (λ i. account_of seats (known_notes i) (twice name m i)) ∙ K.account

-- the notes after one more
notes_more : (x : Note) (noted : Option (List Note)) → noted ≡ Some (notes_in noted) → notes_in (with_note x noted) ≡ x ∷ notes_in noted
notes_more x noted known = ap (λ z. notes_in (with_note x z)) known

pub few_names : {T : Type 0} {size seats name left : ℕ} {p : Phase T} {m : QueueHolder T} → IsQueueSeat size seats name p left m → name < large_seats
few_names f = let below = f.token.below in let few = f.token.few in omega (arith, below, few)

-- ---- a step on the bits

module _ {T : Type 0} (key : QueueLimits) {size seats name left : ℕ} {p : Phase T} {table mine : TableId} {m : QueueHolder T} {parts : PartsInfo T} {old : SleeperInfo T} {queue : QueueInfo}
    (f : IsQueueSeat mine.slots seats name p left m) (q : IsQueue size table) (parts_is : queue_parts (object_id mine seats) name left m ≡ parts) (old_is : sleeper_info parts ≡ old) (knows : KnowsNotes parts)
    (queue_is : queue_info (object_id table key.seats) ≡ queue) (fits : old.seat.object ≡ queue.object) where
  here_is : Here mine seats name left m ≡ old
  here_is = ap (λ z. sleeper_info z) parts_is ∙ old_is

  old_seat : queue_seat (object_id mine seats) name left m ≡ old.seat
  old_seat = ap (λ (s : SleeperInfo T). s.seat) here_is

  knows_here : KnowsNotes (queue_parts (object_id mine seats) name left m)
  knows_here = subst (λ z. KnowsNotes z) (sym parts_is) knows

  own : KnowsAccount seats name (account_of_seat (Here mine seats name left m)) m
  own = knows_account mine seats name left m knows_here

  all_seats : seats ≡ key.seats
  all_seats = same_seats key f q old_seat queue_is fits

  -- the account that a step asks for
  pub asks : (is : Account → Type 0) → is (account_of_seat old) → HasAccount key.seats is m
  asks is holds = subst (λ k. HasAccount k is m) all_seats (has_account own (token_names f.token) is (subst (λ (s : SleeperInfo T). is (account_of_seat s)) (sym here_is) holds))

  -- what a step asks of the token, of a seat that is idle
  pub token_now : state_of old.seat ≡ Idle → (token : QueueToken T) → token.table_id ≡ mine → token.me ≡ m → IsTokenOf table key key.seats (StandsAt phase.Idle) token
  token_now idle token at is = record {
    table = record { same = at ∙ ap (λ (o : ObjectId). o.table) (ap (λ (s : SeatInfo (Mark T)). s.object) old_seat ∙ (fits ∙ sym (ap (λ (c : QueueInfo). c.object) queue_is))); few = refl; words = q.words };
    seat = (name, ap (λ (z : QueueHolder T). z.0.names) is ∙ token_names f.token);
    phase = ap (λ (z : QueueHolder T). z.0.phase) (is ∙ (idle_token f old_seat idle).me_is);
  }

  module _ (idle : state_of old.seat ≡ Idle) {now : TableId} (stays : now ≡ mine) (after : QueueHolder T) where
    abbrev New : SleeperInfo T
    New = Here now seats name left after

    rests : p ≡ phase.Idle
    rests = idle_now key f q old_seat queue_is fits idle

    same_object : object_id now seats ≡ old.seat.object
    same_object = ap (λ (t : TableId). object_id t seats) stays ∙ ap (λ (s : SeatInfo (Mark T)). s.object) old_seat

    -- one that adds no note
    module _ {tells : List (Mark T) → Type 0} (l : NotesNothing table.slots key.seats tells m after) where
      quiet : Leaves (queue_object table.slots key.seats) m [] p m.0.left m.1 tells after
      quiet = subst (λ z. Leaves (queue_object table.slots key.seats) m [] z m.0.left m.1 tells after) (sym rests) l

      pub seat_quiet : IsQueueSeat now.slots seats name p left after
      seat_quiet = seat_observed key f q old_seat queue_is fits stays after quiet

      still : KnowsAccount seats name (account_of_seat (Here mine seats name left m)) after
      still = knows_still (token_names f.token) own l

      pub knows_quiet : KnowsNotes (queue_parts (object_id now seats) name left after)
      knows_quiet = keeps_notes now seats name left after still

      pub adds_no_note : AddsNoNote queue.size old New
      adds_no_note = record {
        object = same_object;
        state = state_observed key f q old_seat queue_is fits stays after quiet;
        left = drawn_observed key f q old_seat queue_is fits stays after quiet;
        makes = makes_observed key f q old_seat queue_is fits stays after quiet;
        notes_are = ap notes_in (noted_kept l) ∙ ap (λ (s : SleeperInfo T). s.notes) here_is;
        account = has_this now seats name left after still ∙ ap (λ (s : SleeperInfo T). account_of_seat s) here_is;
      }

      pub told_quiet : tells after.0.seen
      told_quiet = told_observed key f q old_seat queue_is fits stays after quiet

    -- one that adds a note
    module _ (k : NoteKind) {tells : List (Mark T) → Type 0} (l : Notes table.slots key.seats name k tells m after) where
      abbrev noting_it : QueueHolder T
      noting_it = (noting (note_by name k m) m.0, m.1)

      token_noting : IsSeatToken seat_of seats name (Alike p) left noting_it
      token_noting = record {
        me_is = ap (λ (z : QueueHolder T). (noting (note_by name k m) z.0, z.1)) f.token.me_is;
        below = f.token.below;
        few = f.token.few;
        named = f.token.named;
      }

      seat_noting : IsQueueSeat mine.slots seats name p left noting_it
      seat_noting = record { token = token_noting; rests = f.rests; lawful = f.lawful }

      noted : Leaves (queue_object table.slots key.seats) noting_it [] p m.0.left m.1 tells after
      noted = subst (λ z. Leaves (queue_object table.slots key.seats) noting_it [] z m.0.left m.1 tells after) (sym rests) l

      pub seat_noted : IsQueueSeat now.slots seats name p left after
      seat_noted = seat_observed key seat_noting q old_seat queue_is fits stays after noted

      then : KnowsAccount seats name (after_note seats k (account_of_seat (Here mine seats name left m))) after
      then = knows_note k tells (token_names f.token) own l

      pub knows_noted : KnowsNotes (queue_parts (object_id now seats) name left after)
      knows_noted = keeps_notes now seats name left after then

      pub adds_note : AddsNote queue.size k old New
      adds_note =
          let x : note_by name k m ≡ note_of k (Here mine seats name left m) = ap (λ (z : ℕ). let y : Note = record { kind = k; after = z } in y) (ap length (sym (twice name m))) in
          record {
            object = same_object;
            state = state_observed key seat_noting q old_seat queue_is fits stays after noted;
            left = drawn_observed key seat_noting q old_seat queue_is fits stays after noted;
            makes = makes_observed key seat_noting q old_seat queue_is fits stays after noted;
            notes_are = ap notes_in (noted_kept l) ∙ (notes_more (note_by name k m) m.0.noted knows_here.known ∙ (λ i. x i ∷ notes_in m.0.noted)) ∙ ap (λ (s : SleeperInfo T). note_of k s ∷ s.notes) here_is;
            account = has_this now seats name left after then ∙ ap (λ (s : SleeperInfo T). after_note s.seat.object.seats k (account_of_seat s)) here_is;
          }

      pub told_noted : tells after.0.seen
      told_noted = told_observed key seat_noting q old_seat queue_is fits stays after noted

-- ---- a call on the queue

module _ {T : Type 0} {parts : PartsInfo T} {old : SleeperInfo T} (old_is : sleeper_info parts ≡ old) (knows : KnowsNotes parts) where
  within_old : AreWithin old.notes (marks_by old.seat)
  within_old = subst (λ (s : SleeperInfo T). AreWithin s.notes (marks_by s.seat)) old_is knows.within

  module _ (now : PartsInfo T) (noted : now.noted ≡ parts.noted) where
    notes_kept : (sleeper_info now).notes ≡ old.notes
    notes_kept = ap notes_in noted ∙ ap (λ (s : SleeperInfo T). s.notes) old_is

    pub keeps_notes_by : (size : ℕ) → KeepsNotes size old (sleeper_info now)
    keeps_notes_by size = record {
      notes = notes_kept;
      account = λ kinds makes. ap (λ (l : List Note). account_by now.seat.object.seats l now.seat) notes_kept
          ∙ (ap (λ (o : ObjectId). account_by o.seats old.notes now.seat) (ap (λ (s : SeatInfo (Mark T)). s.object) makes.same_seat)
          ∙ account_made old.seat.object.seats size old.notes kinds old.seat now.seat within_old makes);
    }

-- what the type keeps, if the notes are the same and the seat has at least as many marks
pub knows_after : {T : Type 0} {parts : PartsInfo T} → KnowsNotes parts → (now : PartsInfo T) → now.noted ≡ parts.noted → marks_by parts.seat ≤ marks_by now.seat → KnowsNotes now
knows_after {T} {parts} knows now noted more =
    let same : notes_in now.noted ≡ notes_in parts.noted = ap notes_in noted in
    record {
      known = noted ∙ (knows.known ∙ ap (λ (l : List Note). Some l) (sym same));
      within = subst (λ (l : List Note). AreWithin l (marks_by now.seat)) (sym same) (within_upto (notes_in parts.noted) (marks_by parts.seat) (marks_by now.seat) more knows.within);
    }
