-- What is true of a channel whose sleepers are bits between any two steps, and that signs and checks keep it.
use Rattle.std.specs.Prelude.{◌≡◌, ◌≢◌, ℕ, ◌+◌, ◌<◌, ◌≤◌, cond, pos, ◌+ℤ◌, ◌≤ℤ◌, int_lt, not, ◌&&◌, ◌||◌, Bool, true, false}
use Rattle.fak_core.specs.declared.queue.phase.Phase.{Phase}
use Rattle.fak_core.specs.declared.queue.phase.Phase.TheVariants.{Idle}
use Rattle.fak_core.specs.declared.queue.phase.Phase.TheVariants as queue
use Rattle.fak_core.specs.QueueMoves.{QueueState}
use Rattle.fak_core.proofs.Common.{arith, ints, common_steps, refl, sym, ap, ◌∙◌, subst, inl, inr, same_or_not}
use Rattle.fak_core.proofs.QueueKept.{IsKept}
use Rattle.fak_core.proofs.QueueTurns.{at_here, at_else}
use Rattle.fak_model.specs.declared.note.Sign.{Sign}
use Rattle.fak_model.specs.declared.note.Sign.TheVariants.{Registers, FindsNoItem, FallsAsleep, IsWoken, TakesBack, FindsBit, GivesUp, PassesWord, FindsWord, WakesEnd}
use Rattle.fak_channel_core.specs.SleeperSides.{SleepStage, Duty, Side, bits_after, relies_on_bit, is_registered, is_past_lower, may_sign}
use Rattle.fak_model.specs.declared.note.NoteKind.TheVariants.{AsSender, AsReceiver}
use Rattle.fak_channel_core.specs.SleeperMoves.{Account, Deed, after_deed, SleeperState, with_deed, is_void, sender_side, receiver_side, sender_may, receiver_may, is_idle, sender_signs, receiver_signs, Notes}
use Rattle.fak_channel_core.proofs.SleeperTests.{not_both, both_true, make_both, neither_true, not_true, is_full, is_empty}
use Rattle.fak_channel_core.proofs.SleeperWeights.{Right, SideKept, weight, total, is_asleep, is_past, past_if_asleep, Falls, Finds, slept, was_past, sign_kept, covered_sign, same_total, kept_same}

-- ---- the calls on the queue

-- whether the call asks for room, or for an item
abbrev pub tries_in : {A : Type 0} → Phase A → Bool
tries_in (queue.TestUp x) = true
tries_in (queue.AddUp x) = true
tries_in _ = false

abbrev pub tries_out : {A : Type 0} → Phase A → Bool
tries_out queue.TestLow = true
tries_out queue.SubLow = true
tries_out _ = false

-- 1 if it has not been granted or refused yet
abbrev pub asks_in : {A : Type 0} → Phase A → ℕ
asks_in (queue.TestUp x) = 1
asks_in (queue.AddUp x) = 1
asks_in _ = 0

abbrev pub asks_out : {A : Type 0} → Phase A → ℕ
asks_out queue.TestLow = 1
asks_out queue.SubLow = 1
asks_out _ = 0

-- the same, or if it has not withdrawn yet
abbrev pub leaves_in : {A : Type 0} → Phase A → ℕ
leaves_in (queue.TestUp x) = 1
leaves_in (queue.AddUp x) = 1
leaves_in (queue.BackUp x) = 1
leaves_in _ = 0

abbrev pub leaves_out : {A : Type 0} → Phase A → ℕ
leaves_out queue.TestLow = 1
leaves_out queue.SubLow = 1
leaves_out queue.BackLow = 1
leaves_out _ = 0

-- ---- the weights of an end: for a free cell, for the news of a close, for an item, and for the news that the channel is
-- drained

abbrev pub room_of : {A : Type 0} → ℕ → Account → Phase A → Bool → ℕ
room_of b g p i = weight b g.sender i (tries_in p) (asks_in p)

abbrev pub close_of : {A : Type 0} → ℕ → Account → Phase A → Bool → ℕ
close_of b g p i = weight b g.sender i (tries_in p) (leaves_in p)

abbrev pub item_of : {A : Type 0} → ℕ → Account → Phase A → Bool → ℕ
item_of b g p o = weight b g.receiver o (tries_out p) (asks_out p)

abbrev pub end_of : {A : Type 0} → ℕ → Account → Phase A → Bool → ℕ
end_of b g p o = weight b g.receiver o (tries_out p) (leaves_out p + cond g.checks 1 0)

module _ {A : Type 0} (n : ℕ) (s : SleeperState A) where
  abbrev pub sender_of : ℕ → Duty
  sender_of k = (s.accounts k).sender

  abbrev pub receiver_of : ℕ → Duty
  receiver_of k = (s.accounts k).receiver

  abbrev pub room_total : ℕ → ℕ
  room_total b = total b (λ k. (s.accounts k).sender) s.senders (λ k. tries_in (s.queue.phase k)) (λ k. asks_in (s.queue.phase k)) n

  abbrev pub close_total : ℕ → ℕ
  close_total b = total b (λ k. (s.accounts k).sender) s.senders (λ k. tries_in (s.queue.phase k)) (λ k. leaves_in (s.queue.phase k)) n

  abbrev pub item_total : ℕ → ℕ
  item_total b = total b (λ k. (s.accounts k).receiver) s.receivers (λ k. tries_out (s.queue.phase k)) (λ k. asks_out (s.queue.phase k)) n

  abbrev pub end_total : ℕ → ℕ
  end_total b = total b (λ k. (s.accounts k).receiver) s.receivers (λ k. tries_out (s.queue.phase k)) (λ k. leaves_out (s.queue.phase k) + cond (s.accounts k).checks 1 0) n

-- ---- what a sum has to cover

abbrev pub CoversRoom : {A : Type 0} → ℕ → QueueState A → ℕ → Type 0
CoversRoom size q sum = q.shut ≡ false → pos size ≤ℤ (q.upper +ℤ pos sum)

abbrev pub CoversClose : {A : Type 0} → QueueState A → ℕ → Type 0
CoversClose q sum = q.shut ≡ true → 1 ≤ sum

abbrev pub CoversItems : {A : Type 0} → QueueState A → ℕ → Type 0
CoversItems q sum = q.lower ≤ℤ pos sum

abbrev pub CoversEnd : {A : Type 0} → QueueState A → ℕ → Type 0
CoversEnd q sum = q.shut ≡ true → is_void q ≡ true → 1 ≤ sum

more_room : {A : Type 0} (size : ℕ) (q : QueueState A) (S S' : ℕ) → S ≤ S' → CoversRoom size q S → CoversRoom size q S'
more_room size q S S' le c = λ free. let h = c free in omega (arith, ints)

more_close : {A : Type 0} (q : QueueState A) (S S' : ℕ) → S ≤ S' → CoversClose q S → CoversClose q S'
more_close q S S' le c = λ shut. let h = c shut in omega arith

more_items : {A : Type 0} (q : QueueState A) (S S' : ℕ) → S ≤ S' → CoversItems q S → CoversItems q S'
more_items q S S' le c = omega (arith, ints)

more_end : {A : Type 0} (q : QueueState A) (S S' : ℕ) → S ≤ S' → CoversEnd q S → CoversEnd q S'
more_end q S S' le c = λ shut void. let h = c shut void in omega arith

-- ---- the invariant, of n ends and this many cells

pub record SleeperKept {A : Type 0} (n size : ℕ) (s : SleeperState A) : Type 0 where
  pub queue : IsKept size s.queue
  pub beyond : (k : ℕ) → n ≤ k → s.queue.phase k ≡ Idle
  pub senders : SideKept n (λ k. (s.accounts k).sender) s.senders
  pub receivers : SideKept n (λ k. (s.accounts k).receiver) s.receivers
  pub room : (b : ℕ) → is_asleep (s.accounts b).sender.stage ≡ true → s.senders b ≡ true → CoversRoom size s.queue (room_total n s b)
  pub close : (b : ℕ) → is_asleep (s.accounts b).sender.stage ≡ true → s.senders b ≡ true → CoversClose s.queue (close_total n s b)
  pub items : (b : ℕ) → is_past (s.accounts b).receiver.stage ≡ true → s.receivers b ≡ true → CoversItems s.queue (item_total n s b)
  pub ends : (b : ℕ) → is_asleep (s.accounts b).receiver.stage ≡ true → s.receivers b ≡ true → CoversEnd s.queue (end_total n s b)

-- ---- signs

pub registered_relies : (p : SleepStage) (t : Bool) → (is_registered p && t) ≡ true → relies_on_bit p ≡ true
registered_relies p t e = grind (arith, common_steps)

past_relies : (p : SleepStage) (t : Bool) → (is_past_lower p && t) ≡ true → relies_on_bit p ≡ true
past_relies p t e = grind (arith, common_steps)

past_was_past : (p : SleepStage) (t : Bool) → (is_past_lower p && t) ≡ true → is_past p ≡ true
past_was_past p t e = grind (arith, common_steps)

tries_none : {A : Type 0} (p : Phase A) → is_idle p ≡ true → (tries_in p ≡ false) × (tries_out p ≡ false)
tries_none p i = grind (arith, common_steps)

-- what a sign needs, of either side
pub right_if : (d : Side) (e : ℕ) (v : Sign) → may_sign d e v ≡ true → Right (d.duty e) d.bit e v
right_if d e Registers may = may
right_if d e FindsNoItem may = absurd (not_both false may refl)
right_if d e FallsAsleep may = absurd (not_both false may refl)
right_if d e IsWoken may = (let b = both_true (relies_on_bit (d.duty e).stage) (not (d.bit e)) may in (b.0, not_true (d.bit e) b.1))
right_if d e TakesBack may = both_true (relies_on_bit (d.duty e).stage) (d.bit e) may
right_if d e GivesUp may = may
right_if d e (FindsBit k b) may = tt
right_if d e (PassesWord w) may = may
right_if d e (FindsWord w found) may = tt
right_if d e (WakesEnd k) may = may

right_sender : {A : Type 0} (size : ℕ) (q : QueueState A) (d : Side) (e : ℕ) (v : Sign) → sender_may size q d e v ≡ true → Right (d.duty e) d.bit e v
right_sender size q d e FallsAsleep may = registered_relies (d.duty e).stage (not (q.shut || int_lt q.upper (pos size))) may
right_sender size q d e Registers may = right_if d e Registers may
right_sender size q d e FindsNoItem may = right_if d e FindsNoItem may
right_sender size q d e IsWoken may = right_if d e IsWoken may
right_sender size q d e TakesBack may = right_if d e TakesBack may
right_sender size q d e GivesUp may = right_if d e GivesUp may
right_sender size q d e (FindsBit k b) may = tt
right_sender size q d e (PassesWord w) may = right_if d e (PassesWord w) may
right_sender size q d e (FindsWord w found) may = tt
right_sender size q d e (WakesEnd k) may = right_if d e (WakesEnd k) may

right_receiver : {A : Type 0} (q : QueueState A) (d : Side) (e : ℕ) (v : Sign) → receiver_may q d e v ≡ true → Right (d.duty e) d.bit e v
right_receiver q d e FindsNoItem may = registered_relies (d.duty e).stage (not (int_lt (pos 0) q.lower)) may
right_receiver q d e FallsAsleep may = past_relies (d.duty e).stage (not (q.shut && is_void q)) may
right_receiver q d e Registers may = right_if d e Registers may
right_receiver q d e IsWoken may = right_if d e IsWoken may
right_receiver q d e TakesBack may = right_if d e TakesBack may
right_receiver q d e GivesUp may = right_if d e GivesUp may
right_receiver q d e (FindsBit k b) may = tt
right_receiver q d e (PassesWord w) may = right_if d e (PassesWord w) may
right_receiver q d e (FindsWord w found) may = tt
right_receiver q d e (WakesEnd k) may = right_if d e (WakesEnd k) may

-- what the second tests have found
module _ {A : Type 0} (q : QueueState A) (d : Side) (e : ℕ) where
  sender_falls : (size : ℕ) (v : Sign) → sender_may size q d e v ≡ true → Falls v → ((S : ℕ) → CoversRoom size q S) × ((S : ℕ) → CoversClose q S)
  sender_falls size FallsAsleep may t =
      let none = neither_true q.shut (int_lt q.upper (pos size)) (not_true (q.shut || int_lt q.upper (pos size)) (both_true (is_registered (d.duty e).stage) (not (q.shut || int_lt q.upper (pos size))) may).1) in
      let full : pos size ≤ℤ q.upper = is_full q.upper size none.1 in (λ S free. omega (arith, ints), λ S shut. absurd (not_both q.shut shut none.0))
  sender_falls size _ may t = absurd t

  receiver_finds : (v : Sign) → receiver_may q d e v ≡ true → Finds v → (S : ℕ) → CoversItems q S
  receiver_finds FindsNoItem may t S =
      let none : q.lower ≤ℤ pos 0 = is_empty q.lower (not_true (int_lt (pos 0) q.lower) (both_true (is_registered (d.duty e).stage) (not (int_lt (pos 0) q.lower)) may).1) in omega (arith, ints)
  receiver_finds _ may t S = absurd t

  receiver_falls : (v : Sign) → receiver_may q d e v ≡ true → Falls v → (S : ℕ) → CoversEnd q S
  receiver_falls FallsAsleep may t S = λ shut void. absurd (not_both (q.shut && is_void q) (make_both q.shut (is_void q) shut void) (not_true (q.shut && is_void q) (both_true (is_past_lower (d.duty e).stage) (not (q.shut && is_void q)) may).1))
  receiver_falls _ may t S = absurd t

  receiver_past : (v : Sign) → receiver_may q d e v ≡ true → Falls v → is_past (d.duty e).stage ≡ true
  receiver_past FallsAsleep may t = past_was_past (d.duty e).stage (not (q.shut && is_void q)) may
  receiver_past _ may t = absurd t

module _ {A : Type 0} (n size : ℕ) (s : SleeperState A) (e : ℕ) (l : e < n) (K : SleeperKept n size s) where
  -- ---- one end's account changes

  module _ (x : Deed A) where
    abbrev Next : SleeperState A
    Next = with_deed n s e x

    account_here : Next.accounts e ≡ after_deed n x (s.accounts e)
    account_here = at_here s.accounts e (after_deed n x (s.accounts e))

    account_else : (k : ℕ) → k ≢ e → Next.accounts k ≡ s.accounts k
    account_else k ne = at_else s.accounts e k (after_deed n x (s.accounts e)) ne

    -- what the deed leaves as it is
    same_part : {B : Type 0} (f : Account → B) → f (after_deed n x (s.accounts e)) ≡ f (s.accounts e) → (k : ℕ) → f (Next.accounts k) ≡ f (s.accounts k)
    same_part f is k = elim (same_or_not k e) [
      | inl q ↦ ap (λ j. f (Next.accounts j)) q ∙ (ap f account_here ∙ (is ∙ ap (λ j. f (s.accounts j)) (sym q)))
      | inr ne ↦ ap f (account_else k ne)
    ]

  module _ (idle : is_idle (s.queue.phase e) ≡ true) (v : Sign) where
    pub kept_sender : sender_may size s.queue (sender_side s) e v ≡ true → SleeperKept n size (sender_signs n s e v)
    kept_sender may =
        let x : Deed A = Notes (AsSender v) in
        let r = right_sender size s.queue (sender_side s) e v may in
        let t = (tries_none (s.queue.phase e) idle).0 in
        let here = ap (λ g. g.sender) (account_here x) in
        let same = λ (k : ℕ) (ne : k ≢ e). ap (λ g. g.sender) (account_else x k ne) in
        let other = same_part x (λ g. g.receiver) refl in
        let d = λ (k : ℕ). (s.accounts k).sender in
        let d' = λ (k : ℕ). ((with_deed n s e x).accounts k).sender in
        let o = λ (k : ℕ). (s.accounts k).receiver in
        let o' = λ (k : ℕ). ((with_deed n s e x).accounts k).receiver in
        let asks = λ (k : ℕ). tries_in (s.queue.phase k) in
        record {
          queue = K.queue;
          beyond = K.beyond;
          senders = sign_kept n d d' s.senders e l same K.senders v here r;
          receivers = kept_same n o o' s.receivers other K.receivers;
          room = covered_sign n d d' s.senders asks (λ k. asks_in (s.queue.phase k)) is_asleep (CoversRoom size s.queue) (Falls v) e l same K.senders v here r t
              past_if_asleep (slept n v (d e)) (more_room size s.queue) (λ f. (sender_falls s.queue (sender_side s) e size v may f).0) K.room;
          close = covered_sign n d d' s.senders asks (λ k. leaves_in (s.queue.phase k)) is_asleep (CoversClose s.queue) (Falls v) e l same K.senders v here r t
              past_if_asleep (slept n v (d e)) (more_close s.queue) (λ f. (sender_falls s.queue (sender_side s) e size v may f).1) K.close;
          items = λ b a set. subst (CoversItems s.queue)
              (sym (same_total n b o o' s.receivers (λ k. tries_out (s.queue.phase k)) (λ k. asks_out (s.queue.phase k)) (λ k. asks_out (s.queue.phase k)) other (λ k. refl)))
              (K.items b (sym (ap (λ g. is_past g.stage) (other b)) ∙ a) set);
          ends = λ b a set. subst (CoversEnd s.queue)
              (sym (same_total n b o o' s.receivers (λ k. tries_out (s.queue.phase k)) (λ k. leaves_out (s.queue.phase k) + cond (s.accounts k).checks 1 0)
              (λ k. leaves_out (s.queue.phase k) + cond ((with_deed n s e x).accounts k).checks 1 0) other
              (λ k. ap (λ c. leaves_out (s.queue.phase k) + cond c 1 0) (same_part x (λ g. g.checks) refl k))))
              (K.ends b (sym (ap (λ g. is_asleep g.stage) (other b)) ∙ a) set);
        }

    pub kept_receiver : receiver_may s.queue (receiver_side s) e v ≡ true → SleeperKept n size (receiver_signs n s e v)
    kept_receiver may =
        let x : Deed A = Notes (AsReceiver v) in
        let r = right_receiver s.queue (receiver_side s) e v may in
        let t = (tries_none (s.queue.phase e) idle).1 in
        let here = ap (λ g. g.receiver) (account_here x) in
        let same = λ (k : ℕ) (ne : k ≢ e). ap (λ g. g.receiver) (account_else x k ne) in
        let other = same_part x (λ g. g.sender) refl in
        let d = λ (k : ℕ). (s.accounts k).receiver in
        let d' = λ (k : ℕ). ((with_deed n s e x).accounts k).receiver in
        let o = λ (k : ℕ). (s.accounts k).sender in
        let o' = λ (k : ℕ). ((with_deed n s e x).accounts k).sender in
        let asks = λ (k : ℕ). tries_out (s.queue.phase k) in
        let checks = same_part x (λ g. g.checks) refl in
        let more = λ (k : ℕ). leaves_out (s.queue.phase k) + cond (s.accounts k).checks 1 0 in
        let more' = λ (k : ℕ). leaves_out (s.queue.phase k) + cond ((with_deed n s e x).accounts k).checks 1 0 in
        let bits = bits_after v e s.receivers in
        record {
          queue = K.queue;
          beyond = K.beyond;
          senders = kept_same n o o' s.senders other K.senders;
          receivers = sign_kept n d d' s.receivers e l same K.receivers v here r;
          room = λ b a set. subst (CoversRoom size s.queue)
              (sym (same_total n b o o' s.senders (λ k. tries_in (s.queue.phase k)) (λ k. asks_in (s.queue.phase k)) (λ k. asks_in (s.queue.phase k)) other (λ k. refl)))
              (K.room b (sym (ap (λ g. is_asleep g.stage) (other b)) ∙ a) set);
          close = λ b a set. subst (CoversClose s.queue)
              (sym (same_total n b o o' s.senders (λ k. tries_in (s.queue.phase k)) (λ k. leaves_in (s.queue.phase k)) (λ k. leaves_in (s.queue.phase k)) other (λ k. refl)))
              (K.close b (sym (ap (λ g. is_asleep g.stage) (other b)) ∙ a) set);
          items = covered_sign n d d' s.receivers asks (λ k. asks_out (s.queue.phase k)) is_past (CoversItems s.queue) (Finds v) e l same K.receivers v here r t
              (λ p a. a) (was_past n v (d e) (receiver_past s.queue (receiver_side s) e v may)) (more_items s.queue) (receiver_finds s.queue (receiver_side s) e v may) K.items;
          ends = λ b a set. subst (CoversEnd s.queue) (sym (same_total n b d' d' bits asks more more' (λ k. refl) (λ k. ap (λ c. leaves_out (s.queue.phase k) + cond c 1 0) (checks k))))
              (covered_sign n d d' s.receivers asks more is_asleep (CoversEnd s.queue) (Falls v) e l same K.receivers v here r t
              past_if_asleep (slept n v (d e)) (more_end s.queue) (receiver_falls s.queue (receiver_side s) e v may) K.ends b a set);
        }
