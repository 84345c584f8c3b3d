-- Each step of the queue keeps what is true of a channel whose sleepers are bits, whichever end takes it and when.
use Rattle.std.specs.Prelude.{◌≡◌, ◌≢◌, ℕ, ◌+◌, ◌*◌, ◌/◌, ◌%◌, ◌==◌, ◌<◌, ◌≤◌, cond, ℤ, pos, ◌+ℤ◌, ◌-ℤ◌, ◌≤ℤ◌, int_lt, not, Bool, true, false, Option, Some, None, List}
use Rattle.fak_model.specs.QueuePast.{item_of as item_put}
use Rattle.fak_model.specs.declared.queue.Kind.{Kind}
use Rattle.fak_model.specs.declared.queue.Kind.TheVariants as mark
use Rattle.fak_model.specs.Histories.{sum_below}
use Rattle.fak_model.proofs.Leading.{sum_one, sum_term}
use Rattle.fak_core.specs.declared.line.CoreMove.TheVariants as step
use Rattle.fak_core.specs.declared.queue.phase.Phase.{Phase}
use Rattle.fak_core.specs.declared.queue.phase.Phase.TheVariants as queue
use Rattle.fak_core.specs.declared.queue.step.Found.TheVariants.{Count, Word}
use Rattle.fak_core.specs.declared.queue.step.Write.TheVariants as write
use Rattle.fak_core.specs.declared.queue.step.QueueMove.{QueueMove}
use Rattle.fak_core.specs.QueueMoves.{QueueState, with_at, with_phase, next_move, moved, quiet, marked, back_up, ticket_in, store_item, set_full, end_in, back_low, ticket_out, load_item, set_free, end_out, set_shut}
use Rattle.fak_core.specs.QueueSchedule.{QueueEvent, Inserts, Deletes, Shuts, Advances, begun}
use Rattle.fak_core.proofs.Common.{arith, ints, common_steps, refl, sym, ap, ◌∙◌, subst, inl, inr, same_or_not}
use Rattle.fak_core.proofs.QueueKept.{IsKept}
use Rattle.fak_core.proofs.QueueSteps.{by_test, kept_move, kept_event}
use Rattle.fak_core.proofs.QueueTurns.{at_here, at_else}
use Rattle.fak_channel_core.specs.SleeperSides.{SleepStage, Duty, tried_stage, has_passed, relies_on_bit}
use Rattle.fak_channel_core.specs.SleeperMoves.{Account, Logged, SleeperState, sender_after, receiver_after, after_mark, with_mark, queue_step, queue_event}
use Rattle.fak_core.specs.QueueProgress.{seat_of}
use Rattle.fak_channel_core.proofs.SleeperCounts.{lower_below}
use Rattle.fak_channel_core.proofs.SleeperTests.{not_both, is_full, is_empty, is_some, void_is, void_before}
use Rattle.fak_channel_core.proofs.SleeperWeights.{stirs, is_asleep, is_past, kept_one, owed_most, none_passed}
use Rattle.fak_channel_core.proofs.SleeperKept.{room_of, close_of, item_of, end_of, CoversRoom, CoversClose, CoversItems, CoversEnd, room_total, close_total, item_total, end_total, SleeperKept}

-- ---- a duty after a mark

relies_after_in : {A : Type 0} (κ : Kind A) (g : Duty) → relies_on_bit (sender_after κ g).stage ≡ relies_on_bit g.stage
relies_after_in κ g = grind (arith, common_steps)

relies_after_out : {A : Type 0} (κ : Kind A) (g : Duty) → relies_on_bit (receiver_after κ g).stage ≡ relies_on_bit g.stage
relies_after_out κ g = grind (arith, common_steps)

asleep_after_in : {A : Type 0} (κ : Kind A) (g : Duty) → is_asleep (sender_after κ g).stage ≡ is_asleep g.stage
asleep_after_in κ g = grind (arith, common_steps)

asleep_after_out : {A : Type 0} (κ : Kind A) (g : Duty) → is_asleep (receiver_after κ g).stage ≡ is_asleep g.stage
asleep_after_out κ g = grind (arith, common_steps)

past_after_out : {A : Type 0} (κ : Kind A) (g : Duty) → is_past (receiver_after κ g).stage ≡ is_past g.stage
past_after_out κ g = grind (arith, common_steps)

abbrev Open : ℕ → Duty → Type 0
Open n g = has_passed n g.passed ≡ true → g.looks ≡ 0

open_after_in : {A : Type 0} (n e : ℕ) (κ : Kind A) (g : Duty) → e < n → Open n g → Open n (sender_after κ g)
open_after_in n e mark.Closed g l o = λ all. absurd (none_passed n e l all)
open_after_in n e mark.BackIn g l o = λ all. absurd (none_passed n e l all)
open_after_in n e mark.EndOut g l o = λ all. absurd (none_passed n e l all)
open_after_in n e mark.Close g l o = λ all. absurd (none_passed n e l all)
open_after_in n e mark.NoRoom g l o = o
open_after_in n e mark.ClaimIn g l o = o
open_after_in n e mark.OverIn g l o = o
open_after_in n e mark.LateIn g l o = o
open_after_in n e _ g l o = o

open_after_out : {A : Type 0} (n e : ℕ) (κ : Kind A) (g : Duty) → e < n → Open n g → Open n (receiver_after κ g)
open_after_out n e mark.EndIn g l o = λ all. absurd (none_passed n e l all)
open_after_out n e mark.BackOut g l o = λ all. absurd (none_passed n e l all)
open_after_out n e mark.NoItem g l o = o
open_after_out n e mark.ClaimOut g l o = o
open_after_out n e mark.OverOut g l o = o
open_after_out n e _ g l o = o

-- ---- one end changes its account and its phase

-- what the sums have to cover after the step, if the end had account g in phase f and has g' in f'
pub record Moves {A : Type 0} (size : ℕ) (q q' : QueueState A) (g g' : Account) (f f' : Phase A) (i o : Bool) : Type 0 where
  pub room : (b S S' : ℕ) → CoversRoom size q S → S' + room_of b g f i ≡ S + room_of b g' f' i → room_of b g' f' i ≤ S' → CoversRoom size q' S'
  pub close : (b S S' : ℕ) → CoversClose q S → S' + close_of b g f i ≡ S + close_of b g' f' i → close_of b g' f' i ≤ S' → CoversClose q' S'
  pub items : (b S S' : ℕ) → CoversItems q S → S' + item_of b g f o ≡ S + item_of b g' f' o → item_of b g' f' o ≤ S' → CoversItems q' S'
  pub ends : (b S S' : ℕ) → CoversEnd q S → S' + end_of b g f o ≡ S + end_of b g' f' o → end_of b g' f' o ≤ S' → CoversEnd q' S'

-- the end's stages are what they were, or it has tried
pub record Stays (n : ℕ) (g g' : Account) : Type 0 where
  pub relies_in : relies_on_bit g'.sender.stage ≡ relies_on_bit g.sender.stage
  pub relies_out : relies_on_bit g'.receiver.stage ≡ relies_on_bit g.receiver.stage
  pub asleep_in : is_asleep g'.sender.stage ≡ is_asleep g.sender.stage
  pub asleep_out : is_asleep g'.receiver.stage ≡ is_asleep g.receiver.stage
  pub past_out : is_past g'.receiver.stage ≡ is_past g.receiver.stage
  pub open_in : Open n g.sender → Open n g'.sender
  pub open_out : Open n g.receiver → Open n g'.receiver

stays_none : (n : ℕ) (g : Account) → Stays n g g
stays_none n g = record { relies_in = refl; relies_out = refl; asleep_in = refl; asleep_out = refl; past_out = refl; open_in = λ h. h; open_out = λ h. h }

stays : {A : Type 0} (n e : ℕ) (g : Account) → e < n → (o : Option (Kind A)) → Stays n g (after_mark n o g)
stays n e g l None = stays_none n g
stays n e g l (Some κ) = record {
  relies_in = relies_after_in κ g.sender;
  relies_out = relies_after_out κ g.receiver;
  asleep_in = asleep_after_in κ g.sender;
  asleep_out = asleep_after_out κ g.receiver;
  past_out = past_after_out κ g.receiver;
  open_in = open_after_in n e κ g.sender l;
  open_out = open_after_out n e κ g.receiver l;
}

module _ {A : Type 0} (n size : ℕ) (s : SleeperState A) (e : ℕ) (l : e < n) (K : SleeperKept n size s) where
  module _ (f f' : Phase A) (g' : Account) (q' : QueueState A) (accounts : ℕ → Account) (log : List (Logged A)) (was : s.queue.phase e ≡ f) (is : accounts e ≡ g') (is_f : q'.phase e ≡ f')
      (same : (k : ℕ) → k ≢ e → accounts k ≡ s.accounts k) (same_f : (k : ℕ) → k ≢ e → q'.phase k ≡ s.queue.phase k) where
    abbrev pub After : SleeperState A
    After = record { queue = q'; accounts = accounts; senders = s.senders; receivers = s.receivers; log = log }

    sum : (w : ℕ → Account → Phase A → ℕ) → sum_below (λ k. w k (accounts k) (q'.phase k)) n + w e (s.accounts e) f ≡ sum_below (λ k. w k (s.accounts k) (s.queue.phase k)) n + w e g' f'
    sum w =
        let one = sum_one (λ k. w k (s.accounts k) (s.queue.phase k)) (λ k. w k (accounts k) (q'.phase k)) e n l
        (λ k ne. ap (λ g. w k g (q'.phase k)) (same k ne) ∙ ap (w k (s.accounts k)) (same_f k ne)) in
        let a = ap (w e (s.accounts e)) was in let b = ap (λ g. w e g (q'.phase e)) is ∙ ap (w e g') is_f in omega arith

    own : (w : ℕ → Account → Phase A → ℕ) → w e g' f' ≤ sum_below (λ k. w k (accounts k) (q'.phase k)) n
    own w =
        let one = sum_term (λ k. w k (accounts k) (q'.phase k)) e n l in
        let b = ap (λ g. w e g (q'.phase e)) is ∙ ap (w e g') is_f in omega arith

    -- what is said of an end's account, if it is the same of g'
    before : (p : Account → Bool) → p g' ≡ p (s.accounts e) → (k : ℕ) → p (accounts k) ≡ true → p (s.accounts k) ≡ true
    before p q k a = elim (same_or_not k e) [
      | inl here ↦ ap (λ j. p (s.accounts j)) here ∙ (sym q ∙ (sym (ap p is) ∙ (ap (λ j. p (accounts j)) (sym here) ∙ a)))
      | inr ne ↦ sym (ap p (same k ne)) ∙ a
    ]

    pub changes : IsKept size q' → Stays n (s.accounts e) g' → Moves size s.queue q' (s.accounts e) g' f f' (s.senders e) (s.receivers e) → SleeperKept n size After
    changes kq T M = record {
      queue = kq;
      beyond = λ k le. same_f k (λ q. absurd (omega arith)) ∙ K.beyond k le;
      senders = kept_one n (λ k. (s.accounts k).sender) (λ k. (accounts k).sender) s.senders s.senders e l (λ k ne. ap (λ g. g.sender) (same k ne)) (λ k ne set. set) K.senders
          (λ set. ap (λ g. relies_on_bit g.sender.stage) is ∙ (T.relies_in ∙ K.senders.owner e set)) (subst (λ g. Open n g.sender) (sym is) (T.open_in (K.senders.finished e)));
      receivers = kept_one n (λ k. (s.accounts k).receiver) (λ k. (accounts k).receiver) s.receivers s.receivers e l (λ k ne. ap (λ g. g.receiver) (same k ne)) (λ k ne set. set) K.receivers
          (λ set. ap (λ g. relies_on_bit g.receiver.stage) is ∙ (T.relies_out ∙ K.receivers.owner e set)) (subst (λ g. Open n g.receiver) (sym is) (T.open_out (K.receivers.finished e)));
      room = λ b a set. M.room b (room_total n s b) (room_total n After b) (K.room b (before (λ g. is_asleep g.sender.stage) T.asleep_in b a) set)
          (sum (λ k g p. room_of b g p (s.senders k))) (own (λ k g p. room_of b g p (s.senders k)));
      close = λ b a set. M.close b (close_total n s b) (close_total n After b) (K.close b (before (λ g. is_asleep g.sender.stage) T.asleep_in b a) set)
          (sum (λ k g p. close_of b g p (s.senders k))) (own (λ k g p. close_of b g p (s.senders k)));
      items = λ b a set. M.items b (item_total n s b) (item_total n After b) (K.items b (before (λ g. is_past g.receiver.stage) T.past_out b a) set)
          (sum (λ k g p. item_of b g p (s.receivers k))) (own (λ k g p. item_of b g p (s.receivers k)));
      ends = λ b a set. M.ends b (end_total n s b) (end_total n After b) (K.ends b (before (λ g. is_asleep g.receiver.stage) T.asleep_out b a) set)
          (sum (λ k g p. end_of b g p (s.receivers k))) (own (λ k g p. end_of b g p (s.receivers k)));
    }

-- ---- the steps

-- an end that has tried does not stir any more, and its call counted until then
stirs_tried : (p : SleepStage) (i : Bool) → stirs p i true ≡ stirs (tried_stage p) i false
stirs_tried p i = grind (arith, common_steps)

stirs_tries : (p : SleepStage) (i : Bool) → stirs p i false ≤ stirs p i true + 1
stirs_tries p i = grind (arith, common_steps)

module _ {A : Type 0} (n size : ℕ) (s : SleeperState A) (e : ℕ) (l : e < n) (z : 0 < size) (K : SleeperKept n size s) where
  abbrev Then : QueueMove A → Type 0
  Then m = SleeperKept n size (queue_step n s e (Some m))

  abbrev Covers : Phase A → QueueMove A → Type 0
  Covers f m = Moves size s.queue (moved s.queue e m) (s.accounts e) (after_mark n m.mark (s.accounts e)) f m.phase (s.senders e) (s.receivers e)

  by_step : (f : Phase A) (m : QueueMove A) → s.queue.phase e ≡ f → IsKept size (moved s.queue e m) → Covers f m → Then m
  by_step f m was kq M =
      let g' = after_mark n m.mark (s.accounts e) in
      changes n size s e l K f m.phase g' (moved s.queue e m) (with_at s.accounts e g') (with_mark e m.mark s.log) was (at_here s.accounts e g') (at_here s.queue.phase e m.phase)
      (λ k ne. at_else s.accounts e k g' ne) (λ k ne. at_else s.queue.phase e k m.phase ne) kq (stays n e (s.accounts e) l m.mark) M

  -- a step that leaves the counts and the weights as they are
  calm : (f : Phase A) (m : QueueMove A) → s.queue.phase e ≡ f → IsKept size (moved s.queue e m)
      → (moved s.queue e m).upper ≡ s.queue.upper → (moved s.queue e m).lower ≡ s.queue.lower → (moved s.queue e m).shut ≡ s.queue.shut
      → ((b : ℕ) → room_of b (s.accounts e) f (s.senders e) ≡ room_of b (after_mark n m.mark (s.accounts e)) m.phase (s.senders e))
      → ((b : ℕ) → close_of b (s.accounts e) f (s.senders e) ≡ close_of b (after_mark n m.mark (s.accounts e)) m.phase (s.senders e))
      → ((b : ℕ) → item_of b (s.accounts e) f (s.receivers e) ≡ item_of b (after_mark n m.mark (s.accounts e)) m.phase (s.receivers e))
      → ((b : ℕ) → end_of b (s.accounts e) f (s.receivers e) ≡ end_of b (after_mark n m.mark (s.accounts e)) m.phase (s.receivers e)) → Then m
  calm f m was kq u lo sh w1 w2 w3 w4 = by_step f m was kq (record {
    room = λ b S S' c e t is. let h = c (sym sh ∙ is) in let w = w1 b in omega (arith, ints);
    close = λ b S S' c e t is. let h = c (sym sh ∙ is) in let w = w2 b in omega arith;
    items = λ b S S' c e t. let w = w3 b in omega (arith, ints);
    ends = λ b S S' c e t is v. let h = c (sym sh ∙ is) (ap (λ u. not (int_lt (pos 0) u)) (sym u) ∙ v) in let w = w4 b in omega arith;
  })

  draws : (d : Option A) → s.queue.phase e ≡ queue.TicketOut → IsKept size (moved s.queue e (ticket_out s.queue.draws_out d)) → Then (ticket_out s.queue.draws_out d)
  draws None was kq = calm queue.TicketOut (ticket_out s.queue.draws_out None) was kq refl refl refl (λ b. refl) (λ b. refl) (λ b. refl) (λ b. refl)
  draws (Some v) was kq = calm queue.TicketOut (ticket_out s.queue.draws_out (Some v)) was kq refl refl refl (λ b. refl) (λ b. refl) (λ b. refl) (λ b. refl)

  -- the step of an end in this phase
  kept_at : (f : Phase A) → s.queue.phase e ≡ f → SleeperKept n size (queue_step n s e (next_move size s.queue f))
  kept_at queue.Idle was = K
  kept_at (queue.TestUp v) was =
      let P = λ (m : QueueMove A). (IsKept size (moved s.queue e m) → Then m) in
      let g = s.accounts e in
      let refused : QueueMove A = marked step.TestUp (Count s.queue.upper) mark.Closed write.Nothing queue.Idle in
      let goes_on : QueueMove A = quiet step.TestUp (Count s.queue.upper) (queue.AddUp v) in
      let full : QueueMove A = marked step.TestUp (Count s.queue.upper) mark.NoRoom write.Nothing queue.Idle in
      let t1 = stirs_tried g.sender.stage (s.senders e) in
      by_test P s.queue.shut refused (cond (int_lt s.queue.upper (pos size)) goes_on full)
      (λ b0 kq. by_step (queue.TestUp v) refused was kq (record {
        room = λ b S S' c e t is. absurd (not_both s.queue.shut b0 is);
        close = λ b S S' c e t is. let h = c is in let w = owed_most b g.sender in omega arith;
        items = λ b S S' c e t. omega (arith, ints);
        ends = λ b S S' c e t is v. let h = c is v in omega arith;
      }))
      (λ b0. by_test P (int_lt s.queue.upper (pos size)) goes_on full
      (λ b kq. calm (queue.TestUp v) goes_on was kq refl refl refl (λ b. refl) (λ b. refl) (λ b. refl) (λ b. refl))
      (λ b kq.
      let no_room : pos size ≤ℤ s.queue.upper = is_full s.queue.upper size b in
      by_step (queue.TestUp v) full was kq (record {
        room = λ b S S' c e t is. omega (arith, ints);
        close = λ b S S' c e t is. absurd (not_both s.queue.shut is b0);
        items = λ b S S' c e t. omega (arith, ints);
        ends = λ b S S' c e t is v. let h = c is v in omega arith;
      })))
      (kept_move size s.queue e (queue.TestUp v) z K.queue was)
  kept_at (queue.AddUp v) was =
      let P = λ (m : QueueMove A). (IsKept size (moved s.queue e m) → Then m) in
      let t1 = stirs_tried (s.accounts e).sender.stage (s.senders e) in
      let up : ℤ = s.queue.upper +ℤ pos 1 in
      let late : QueueMove A = marked step.AddUp (Count s.queue.upper) mark.LateIn (write.Upper up) (queue.BackUp v) in
      let claim : QueueMove A = marked step.AddUp (Count s.queue.upper) mark.ClaimIn (write.Upper up) (queue.TicketIn v) in
      let over : QueueMove A = marked step.AddUp (Count s.queue.upper) mark.OverIn (write.Upper up) (queue.BackUp v) in
      by_test P s.queue.shut late (cond (int_lt s.queue.upper (pos size)) claim over)
      (λ b0 kq. by_step (queue.AddUp v) late was kq (record {
        room = λ b S S' c e t is. absurd (not_both s.queue.shut b0 is);
        close = λ b S S' c e t is. let h = c is in omega arith;
        items = λ b S S' c e t. omega (arith, ints);
        ends = λ b S S' c e t is v. let h = c is (void_before s.queue.upper v) in omega arith;
      }))
      (λ b0. by_test P (int_lt s.queue.upper (pos size)) claim over
      (λ b kq. by_step (queue.AddUp v) claim was kq (record {
        room = λ b S S' c e t is. let h = c is in omega (arith, ints);
        close = λ b S S' c e t is. absurd (not_both s.queue.shut is b0);
        items = λ b S S' c e t. omega (arith, ints);
        ends = λ b S S' c e t is v. absurd (not_both s.queue.shut is b0);
      }))
      (λ b kq.
      let no_room : pos size ≤ℤ s.queue.upper = is_full s.queue.upper size b in
      by_step (queue.AddUp v) over was kq (record {
        room = λ b S S' c e t is. omega (arith, ints);
        close = λ b S S' c e t is. absurd (not_both s.queue.shut is b0);
        items = λ b S S' c e t. omega (arith, ints);
        ends = λ b S S' c e t is v. absurd (not_both s.queue.shut is b0);
      })))
      (kept_move size s.queue e (queue.AddUp v) z K.queue was)
  kept_at (queue.BackUp v) was =
      let g = s.accounts e in
      by_step (queue.BackUp v) (back_up s.queue.upper) was (kept_move size s.queue e (queue.BackUp v) z K.queue was) (record {
        room = λ b S S' c e t is. let h = c is in let w = owed_most b g.sender in omega (arith, ints);
        close = λ b S S' c e t is. let h = c is in let w = owed_most b g.sender in omega arith;
        items = λ b S S' c e t. omega (arith, ints);
        ends = λ b S S' c e t is v. omega arith;
      })
  kept_at (queue.TicketIn v) was =
      calm (queue.TicketIn v) (ticket_in s.queue.draws_in v) was (kept_move size s.queue e (queue.TicketIn v) z K.queue was) refl refl refl (λ b. refl) (λ b. refl) (λ b. refl) (λ b. refl)
  kept_at (queue.TurnIn k v) was =
      let P = λ (m : QueueMove A). (IsKept size (moved s.queue e m) → Then m) in
      let hit : QueueMove A = quiet step.TurnIn (Word (s.queue.turn (k % size))) (queue.StoreItem k v) in
      let miss : QueueMove A = quiet step.TurnIn (Word (s.queue.turn (k % size))) (queue.TurnIn k v) in
      by_test P (s.queue.turn (k % size) == 2 * (k / size)) hit miss
      (λ b kq. calm (queue.TurnIn k v) hit was kq refl refl refl (λ b. refl) (λ b. refl) (λ b. refl) (λ b. refl))
      (λ b kq. calm (queue.TurnIn k v) miss was kq refl refl refl (λ b. refl) (λ b. refl) (λ b. refl) (λ b. refl))
      (kept_move size s.queue e (queue.TurnIn k v) z K.queue was)
  kept_at (queue.StoreItem k v) was =
      calm (queue.StoreItem k v) (store_item size k v) was (kept_move size s.queue e (queue.StoreItem k v) z K.queue was) refl refl refl (λ b. refl) (λ b. refl) (λ b. refl) (λ b. refl)
  kept_at (queue.SetFull k v) was =
      calm (queue.SetFull k v) (set_full size k) was (kept_move size s.queue e (queue.SetFull k v) z K.queue was) refl refl refl (λ b. refl) (λ b. refl) (λ b. refl) (λ b. refl)
  kept_at (queue.EndInsert k) was =
      let g = s.accounts e in
      by_step (queue.EndInsert k) (end_in s.queue.lower) was (kept_move size s.queue e (queue.EndInsert k) z K.queue was) (record {
        room = λ b S S' c e t is. let h = c is in omega (arith, ints);
        close = λ b S S' c e t is. let h = c is in omega arith;
        items = λ b S S' c e t. let w = owed_most b g.receiver in omega (arith, ints);
        ends = λ b S S' c e t is v. omega arith;
      })
  kept_at queue.TestLow was =
      let P = λ (m : QueueMove A). (IsKept size (moved s.queue e m) → Then m) in
      let g = s.accounts e in
      let goes_on : QueueMove A = quiet step.TestLow (Count s.queue.lower) queue.SubLow in
      let refused : QueueMove A = marked step.TestLow (Count s.queue.lower) mark.NoItem write.Nothing queue.Idle in
      let t1 = stirs_tried g.receiver.stage (s.receivers e) in
      by_test P (int_lt (pos 0) s.queue.lower) goes_on refused
      (λ b kq. calm queue.TestLow goes_on was kq refl refl refl (λ b. refl) (λ b. refl) (λ b. refl) (λ b. refl))
      (λ b kq.
      let none : s.queue.lower ≤ℤ pos 0 = is_empty s.queue.lower b in
      by_step queue.TestLow refused was kq (record {
        room = λ b S S' c e t is. let h = c is in omega (arith, ints);
        close = λ b S S' c e t is. let h = c is in omega arith;
        items = λ b S S' c e t. omega (arith, ints);
        ends = λ b S S' c e t is v. omega arith;
      }))
      (kept_move size s.queue e queue.TestLow z K.queue was)
  kept_at queue.SubLow was =
      let P = λ (m : QueueMove A). (IsKept size (moved s.queue e m) → Then m) in
      let t1 = stirs_tried (s.accounts e).receiver.stage (s.receivers e) in
      let down : ℤ = s.queue.lower -ℤ pos 1 in
      let claim : QueueMove A = marked step.SubLow (Count s.queue.lower) mark.ClaimOut (write.Lower down) queue.TicketOut in
      let over : QueueMove A = marked step.SubLow (Count s.queue.lower) mark.OverOut (write.Lower down) queue.BackLow in
      by_test P (int_lt (pos 0) s.queue.lower) claim over
      (λ b kq.
      let some : pos 1 ≤ℤ s.queue.lower = is_some s.queue.lower b in
      let below = lower_below size s.queue K.queue in
      by_step queue.SubLow claim was kq (record {
        room = λ b S S' c e t is. let h = c is in omega (arith, ints);
        close = λ b S S' c e t is. let h = c is in omega arith;
        items = λ b S S' c e t. omega (arith, ints);
        ends = λ b S S' c e t is v. let void = void_is s.queue.upper v in absurd (omega (arith, ints));
      }))
      (λ b kq.
      let none : s.queue.lower ≤ℤ pos 0 = is_empty s.queue.lower b in
      by_step queue.SubLow over was kq (record {
        room = λ b S S' c e t is. let h = c is in omega (arith, ints);
        close = λ b S S' c e t is. let h = c is in omega arith;
        items = λ b S S' c e t. omega (arith, ints);
        ends = λ b S S' c e t is v. let h = c is v in omega arith;
      }))
      (kept_move size s.queue e queue.SubLow z K.queue was)
  kept_at queue.BackLow was =
      let g = s.accounts e in
      by_step queue.BackLow (back_low s.queue.lower) was (kept_move size s.queue e queue.BackLow z K.queue was) (record {
        room = λ b S S' c e t is. let h = c is in omega (arith, ints);
        close = λ b S S' c e t is. let h = c is in omega arith;
        items = λ b S S' c e t. let w = owed_most b g.receiver in omega (arith, ints);
        ends = λ b S S' c e t is v. omega arith;
      })
  kept_at queue.TicketOut was = draws (item_put s.queue.past s.queue.draws_out) was (kept_move size s.queue e queue.TicketOut z K.queue was)
  kept_at (queue.TurnOut k) was =
      let P = λ (m : QueueMove A). (IsKept size (moved s.queue e m) → Then m) in
      let hit : QueueMove A = quiet step.TurnOut (Word (s.queue.turn (k % size))) (queue.LoadItem k) in
      let miss : QueueMove A = quiet step.TurnOut (Word (s.queue.turn (k % size))) (queue.TurnOut k) in
      by_test P (s.queue.turn (k % size) == 2 * (k / size) + 1) hit miss
      (λ b kq. calm (queue.TurnOut k) hit was kq refl refl refl (λ b. refl) (λ b. refl) (λ b. refl) (λ b. refl))
      (λ b kq. calm (queue.TurnOut k) miss was kq refl refl refl (λ b. refl) (λ b. refl) (λ b. refl) (λ b. refl))
      (kept_move size s.queue e (queue.TurnOut k) z K.queue was)
  kept_at (queue.LoadItem k) was =
      calm (queue.LoadItem k) (load_item (s.queue.cell (k % size)) k) was (kept_move size s.queue e (queue.LoadItem k) z K.queue was) refl refl refl (λ b. refl) (λ b. refl) (λ b. refl) (λ b. refl)
  kept_at (queue.SetFree k) was =
      calm (queue.SetFree k) (set_free size k) was (kept_move size s.queue e (queue.SetFree k) z K.queue was) refl refl refl (λ b. refl) (λ b. refl) (λ b. refl) (λ b. refl)
  kept_at (queue.EndDelete k) was =
      let g = s.accounts e in
      by_step (queue.EndDelete k) (end_out s.queue.upper) was (kept_move size s.queue e (queue.EndDelete k) z K.queue was) (record {
        room = λ b S S' c e t is. let h = c is in let w = owed_most b g.sender in omega (arith, ints);
        close = λ b S S' c e t is. omega arith;
        items = λ b S S' c e t. omega (arith, ints);
        ends = λ b S S' c e t is v. omega arith;
      })
  kept_at queue.SetShut was =
      let g = s.accounts e in
      by_step queue.SetShut (set_shut s.queue.upper) was (kept_move size s.queue e queue.SetShut z K.queue was) (record {
        room = λ b S S' c e t is. absurd (not_both true refl is);
        close = λ b S S' c e t is. omega arith;
        items = λ b S S' c e t. omega (arith, ints);
        ends = λ b S S' c e t is v. omega arith;
      })

  -- ---- the begin of a call

  begins : (f : Phase A) → s.queue.phase e ≡ queue.Idle → IsKept size (with_phase s.queue e f)
      → ((b : ℕ) → room_of {A = A} b (s.accounts e) queue.Idle (s.senders e) ≤ room_of b (s.accounts e) f (s.senders e))
      → ((b : ℕ) → close_of {A = A} b (s.accounts e) queue.Idle (s.senders e) ≤ close_of b (s.accounts e) f (s.senders e))
      → ((b : ℕ) → item_of {A = A} b (s.accounts e) queue.Idle (s.receivers e) ≤ item_of b (s.accounts e) f (s.receivers e))
      → ((b : ℕ) → end_of {A = A} b (s.accounts e) queue.Idle (s.receivers e) ≤ end_of b (s.accounts e) f (s.receivers e)) → SleeperKept n size (record s { queue = with_phase s.queue e f })
  begins f was kq w1 w2 w3 w4 =
      changes n size s e l K queue.Idle f (s.accounts e) (with_phase s.queue e f) s.accounts s.log was refl (at_here s.queue.phase e f)
      (λ k ne. refl) (λ k ne. at_else s.queue.phase e k f ne) kq (stays_none n (s.accounts e)) (record {
        room = λ b S S' c e t is. let h = c is in let w = w1 b in omega (arith, ints);
        close = λ b S S' c e t is. let h = c is in let w = w2 b in omega arith;
        items = λ b S S' c e t. let w = w3 b in omega (arith, ints);
        ends = λ b S S' c e t is v. let h = c is v in let w = w4 b in omega arith;
      })

  kept_inserts : (x : A) (p : Phase A) → s.queue.phase e ≡ p → IsKept size (begun s.queue e (queue.TestUp x) p) → SleeperKept n size (record s { queue = begun s.queue e (queue.TestUp x) p })
  kept_inserts x queue.Idle was kq =
      let t = stirs_tries (s.accounts e).sender.stage (s.senders e) in begins (queue.TestUp x) was kq (λ b. omega arith) (λ b. omega arith) (λ b. omega arith) (λ b. omega arith)
  kept_inserts x _ was kq = K

  kept_deletes : (p : Phase A) → s.queue.phase e ≡ p → IsKept size (begun s.queue e queue.TestLow p) → SleeperKept n size (record s { queue = begun s.queue e queue.TestLow p })
  kept_deletes queue.Idle was kq =
      let t = stirs_tries (s.accounts e).receiver.stage (s.receivers e) in begins queue.TestLow was kq (λ b. omega arith) (λ b. omega arith) (λ b. omega arith) (λ b. omega arith)
  kept_deletes _ was kq = K

  kept_shuts : (p : Phase A) → s.queue.phase e ≡ p → IsKept size (begun s.queue e queue.SetShut p) → SleeperKept n size (record s { queue = begun s.queue e queue.SetShut p })
  kept_shuts queue.Idle was kq = begins queue.SetShut was kq (λ b. omega arith) (λ b. omega arith) (λ b. omega arith) (λ b. omega arith)
  kept_shuts _ was kq = K

-- any step of an end below n on the queue keeps the invariant
pub kept_queue_event : {A : Type 0} (n size : ℕ) (s : SleeperState A) (v : QueueEvent A) → seat_of v < n → 0 < size → SleeperKept n size s → SleeperKept n size (queue_event n size s v)
kept_queue_event n size s (Inserts e x) l z K = kept_inserts n size s e l z K x (s.queue.phase e) refl (kept_event size s.queue (Inserts e x) z K.queue)
kept_queue_event n size s (Deletes e) l z K = kept_deletes n size s e l z K (s.queue.phase e) refl (kept_event size s.queue (Deletes e) z K.queue)
kept_queue_event n size s (Shuts e) l z K = kept_shuts n size s e l z K (s.queue.phase e) refl (kept_event size s.queue (Shuts e) z K.queue)
kept_queue_event n size s (Advances e) l z K = kept_at n size s e l z K (s.queue.phase e) refl
