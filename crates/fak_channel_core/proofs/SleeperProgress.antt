-- An end that does not rest moves its call on the queue forward, or some other end does, or its next step on the bits leaves
-- it less to do.
use Rattle.std.specs.Prelude.{◌≡◌, ◌≢◌, ℕ, ◌+◌, ◌*◌, ◌<◌, ◌≤◌, nat_lt, cond, Bool, true, false, not, ◌&&◌}
use Rattle.fak_core.specs.declared.queue.phase.Phase.TheVariants.{Idle}
use Rattle.fak_core.specs.QueueProgress.{SomeSeatMoves}
use Rattle.fak_core.proofs.Common.{arith, common_steps, refl, sym, ap, ◌∙◌, subst, inl, inr}
use Rattle.fak_core.proofs.QueueProgress.{some_moves}
use Rattle.fak_core.proofs.QueueReached.{true_or_false}
use Rattle.fak_core.proofs.QueueSteps.{by_test}
use Rattle.fak_core.proofs.QueueTurns.{at_here}
use Rattle.fak_model.specs.declared.note.Sign.{Sign}
use Rattle.fak_model.specs.declared.note.Sign.TheVariants.{IsWoken, FindsNoItem, FallsAsleep, FindsBit, FindsWord}
use Rattle.fak_channel_core.specs.SleeperSides.{SleepStage, Asleep, Woken, Duty, owes_look, less, after_sign, bits_after, relies_on_bit, may_sign, is_as, shows_bits}
use Rattle.fak_model.specs.declared.note.NoteKind.TheVariants.{AsSender, AsReceiver, Checks}
use Rattle.fak_channel_core.specs.SleeperMoves.{Account, after_deed, SleeperState, sender_side, receiver_side, with_deed, is_void, sender_may, receiver_may, is_idle, sender_signs, receiver_signs, Notes}
use Rattle.fak_channel_core.specs.SleeperSchedule.{SleeperEvent, SenderSigns, ReceiverSigns, ChecksUpper, end_of, sleeper_event, sleeper_happens, IsResting}
use Rattle.fak_channel_core.specs.SleeperProgress.{stage_left, duty_left, account_left, steps_to_rest, ComesOn}
use Rattle.fak_channel_core.proofs.SleeperTests.{both_true, not_both, make_both, if_so, lt_true}
use Rattle.fak_channel_core.proofs.SleeperDuties.{looks_most, looks_some, rests_or_helps, duty_rests, no_looks, stage_done}
use Rattle.fak_channel_core.proofs.SleeperKept.{SleeperKept}

-- ---- the end of a step

module _ {A : Type 0} (n size : ℕ) (s : SleeperState A) (K : SleeperKept n size s) (e : ℕ) (l : e < n) (idle : s.queue.phase e ≡ Idle) where
  abbrev now : Account
  now = s.accounts e

  at_idle : is_idle (s.queue.phase e) ≡ true
  at_idle = ap is_idle idle

  comes_on : (v : SleeperEvent A) (t : SleeperState A) (g' : Account) (i o : Bool) → end_of v ≡ e → sleeper_event n size s v ≡ t → t.accounts e ≡ g' → t.senders e ≡ i → t.receivers e ≡ o
      → account_left n g' i o < steps_to_rest n s e → ComesOn n size s e
  comes_on v t g' i o own is is_g is_i is_o less =
      let happens = if_so (nat_lt (end_of v) n) (sleeper_event n size s v) s (lt_true (end_of v) n (omega arith)) in
      record { idle = idle; event = v; own = own; less = subst (λ (d : ℕ). d < steps_to_rest n s e) (sym (ap (λ u. steps_to_rest n u e) (happens ∙ is) ∙ left)) less }
    where
      left : steps_to_rest n t e ≡ account_left n g' i o
      left = cc

  sender_comes_on : (v : Sign) → sender_may size s.queue (sender_side s) e v ≡ true → duty_left n (after_sign n v now.sender) (bits_after v e s.senders e) < duty_left n now.sender (s.senders e) → ComesOn n size s e
  sender_comes_on v may less =
      comes_on (SenderSigns e v) (sender_signs n s e v) (after_deed {A = A} n (Notes (AsSender v)) now) (bits_after v e s.senders e) (s.receivers e) refl
      (if_so (is_idle (s.queue.phase e) && sender_may size s.queue (sender_side s) e v) (sender_signs n s e v) s (make_both (is_idle (s.queue.phase e)) (sender_may size s.queue (sender_side s) e v) at_idle may))
      (at_here s.accounts e (after_deed {A = A} n (Notes (AsSender v)) now)) refl refl (omega arith)

  receiver_comes_on : (v : Sign) → receiver_may s.queue (receiver_side s) e v ≡ true → duty_left n (after_sign n v now.receiver) (bits_after v e s.receivers e) < duty_left n now.receiver (s.receivers e) → ComesOn n size s e
  receiver_comes_on v may less =
      comes_on (ReceiverSigns e v) (receiver_signs n s e v) (after_deed {A = A} n (Notes (AsReceiver v)) now) (s.senders e) (bits_after v e s.receivers e) refl
      (if_so (is_idle (s.queue.phase e) && receiver_may s.queue (receiver_side s) e v) (receiver_signs n s e v) s (make_both (is_idle (s.queue.phase e)) (receiver_may s.queue (receiver_side s) e v) at_idle may))
      (at_here s.accounts e (after_deed {A = A} n (Notes (AsReceiver v)) now)) refl refl (omega arith)

  -- ---- the whole end

  check_comes_on : now.checks ≡ true → ComesOn n size s e
  check_comes_on c =
      let d = s.queue.shut && is_void s.queue in let h = now.receiver in let i = s.senders e in let o = s.receivers e in
      let was = ap {B = ℕ} (λ c. cond c (2 * n + 6) 0) c in
      comes_on (ChecksUpper e) (with_deed n s e (Notes (Checks d))) (after_deed {A = A} n (Notes (Checks d)) now) i o refl
      (if_so (is_idle (s.queue.phase e)) (with_deed n s e (Notes (Checks d))) s at_idle) (at_here s.accounts e (after_deed {A = A} n (Notes (Checks d)) now)) refl refl
      (by_test (λ (r : Duty). account_left n (record now { receiver = r; checks = false }) i o < steps_to_rest n s e) d (owes_look h) h
      (λ b. let more = looks_most n (owes_look h) (h.looks + 1) in let some = looks_some n h h.looks in let w = stage_more n h.stage o h.looks (h.looks + 1) in omega arith)
      (λ b. omega arith))
    where
      stage_more : (n : ℕ) (p : SleepStage) (i : Bool) (d d' : ℕ) → stage_left n p i d' ≤ stage_left n p i d + (n + 4)
      stage_more n p i d d' = grind (arith, common_steps)

  sender_any : (v : Sign) → may_sign (sender_side s) e v ≡ true → sender_may size s.queue (sender_side s) e v ≡ true
  sender_any FindsNoItem may = may
  sender_any FallsAsleep may = absurd (not_both false may refl)
  sender_any _ may = may

  receiver_any : (v : Sign) → may_sign (receiver_side s) e v ≡ true → receiver_may s.queue (receiver_side s) e v ≡ true
  receiver_any FindsNoItem may = absurd (not_both false may refl)
  receiver_any FallsAsleep may = absurd (not_both false may refl)
  receiver_any _ may = may

  pub comes_on_if_busy : (IsResting s e → ⊥) → ComesOn n size s e
  comes_on_if_busy busy = elim (rests_or_helps n e now.sender s.senders (K.senders.finished e)) [
    | inr helps ↦ sender_comes_on helps.0 (sender_any helps.0 helps.1) helps.2
    | inl sender ↦ elim (rests_or_helps n e now.receiver s.receivers (K.receivers.finished e)) [
      | inr helps ↦ receiver_comes_on helps.0 (receiver_any helps.0 helps.1) helps.2
      | inl receiver ↦ elim (true_or_false now.checks) [
        | inl checks ↦ check_comes_on checks
        | inr none ↦ absurd (busy (record {
          idle = idle;
          for_senders = sender.0;
          for_receivers = receiver.0;
          checks = none;
          sender = elim sender.1 [ inl awake ↦ inl awake | inr asleep ↦ inr (record { asleep = asleep.0; bit = asleep.1 }) ];
          receiver = elim receiver.1 [ inl awake ↦ inl awake | inr asleep ↦ inr (record { asleep = asleep.0; bit = asleep.1 }) ];
        }))
      ]
    ]
  ]

-- ---- the laws

pub some_seat_moves : {A : Type 0} (n size : ℕ) (s : SleeperState A) (e : ℕ) → 0 < size → SleeperKept n size s → s.queue.phase e ≢ Idle → SomeSeatMoves size n s.queue
some_seat_moves n size s e z K ne = some_moves size n s.queue e z K.queue K.beyond ne

pub rests_left : {A : Type 0} (n e : ℕ) (s : SleeperState A) → IsResting s e → steps_to_rest n s e ≡ 0
rests_left n e s r =
    let a = duty_rests n (s.accounts e).sender (s.senders e) r.for_senders (elim r.sender [ inl h ↦ inl h | inr h ↦ inr (h.asleep, h.bit) ]) in
    let b = duty_rests n (s.accounts e).receiver (s.receivers e) r.for_receivers (elim r.receiver [ inl h ↦ inl h | inr h ↦ inr (h.asleep, h.bit) ]) in
    let c = ap {B = ℕ} (λ c. cond c (2 * n + 6) 0) r.checks in omega arith

no_check : (n : ℕ) (c : Bool) → cond c (2 * n + 6) 0 ≡ 0 → c ≡ false
no_check n true z = absurd (omega arith)
no_check n false z = refl

pub rests_done : {A : Type 0} (n e : ℕ) (s : SleeperState A) → s.queue.phase e ≡ Idle → steps_to_rest n s e ≡ 0 → IsResting s e
rests_done n e s idle z =
    let g = s.accounts e in
    record {
      idle = idle;
      for_senders = no_looks n g.sender g.sender.looks (omega arith);
      for_receivers = no_looks n g.receiver g.receiver.looks (omega arith);
      checks = no_check n g.checks (omega arith);
      sender = elim (stage_done n g.sender.stage (s.senders e) g.sender.looks (omega arith)) [ inl awake ↦ inl awake | inr asleep ↦ inr (record { asleep = asleep.0; bit = asleep.1 }) ];
      receiver = elim (stage_done n g.receiver.stage (s.receivers e) g.receiver.looks (omega arith)) [ inl awake ↦ inl awake | inr asleep ↦ inr (record { asleep = asleep.0; bit = asleep.1 }) ];
    }

-- ---- a woken end

module _ {A : Type 0} (n size e : ℕ) (s : SleeperState A) (l : e < n) (idle : s.queue.phase e ≡ Idle) where
  pub sender_wakes : (s.accounts e).sender.stage ≡ Asleep → s.senders e ≡ false → ((sleeper_happens n size s (SenderSigns e IsWoken)).accounts e).sender.stage ≡ Woken
  sender_wakes asleep clear =
      let may = make_both (is_idle (s.queue.phase e)) (relies_on_bit (s.accounts e).sender.stage && not (s.senders e)) (ap is_idle idle)
      (make_both (relies_on_bit (s.accounts e).sender.stage) (not (s.senders e)) (ap relies_on_bit asleep) (ap not clear)) in
      ap (λ (t : SleeperState A). (t.accounts e).sender.stage)
      (if_so (nat_lt e n) (sleeper_event n size s (SenderSigns e IsWoken)) s (lt_true e n l)
      ∙ if_so (is_idle (s.queue.phase e) && sender_may size s.queue (sender_side s) e IsWoken) (sender_signs n s e IsWoken) s may)
      ∙ ap (λ h. h.sender.stage) (at_here s.accounts e (after_deed {A = A} n (Notes (AsSender IsWoken)) (s.accounts e)))

  pub receiver_wakes : (s.accounts e).receiver.stage ≡ Asleep → s.receivers e ≡ false → ((sleeper_happens n size s (ReceiverSigns e IsWoken)).accounts e).receiver.stage ≡ Woken
  receiver_wakes asleep clear =
      let may = make_both (is_idle (s.queue.phase e)) (relies_on_bit (s.accounts e).receiver.stage && not (s.receivers e)) (ap is_idle idle)
      (make_both (relies_on_bit (s.accounts e).receiver.stage) (not (s.receivers e)) (ap relies_on_bit asleep) (ap not clear)) in
      ap (λ (t : SleeperState A). (t.accounts e).receiver.stage)
      (if_so (nat_lt e n) (sleeper_event n size s (ReceiverSigns e IsWoken)) s (lt_true e n l)
      ∙ if_so (is_idle (s.queue.phase e) && receiver_may s.queue (receiver_side s) e IsWoken) (receiver_signs n s e IsWoken) s may)
      ∙ ap (λ h. h.receiver.stage) (at_here s.accounts e (after_deed {A = A} n (Notes (AsReceiver IsWoken)) (s.accounts e)))

-- ---- a note that is not true

as_found : (b c : Bool) → is_as b c ≡ true → c ≡ b
as_found b c e = grind (arith, common_steps)

module _ {A : Type 0} (n size e : ℕ) (s : SleeperState A) where
  -- an event that may not come changes nothing
  no_event : (may : Bool) (t : SleeperState A) → (may ≡ true → ⊥) → cond (nat_lt e n) (cond (is_idle (s.queue.phase e) && may) t s) s ≡ s
  no_event may t other =
      let is : SleeperState A → Type 0 = λ u. u ≡ s in
      by_test is (nat_lt e n) (cond (is_idle (s.queue.phase e) && may) t s) s
      (λ _. by_test is (is_idle (s.queue.phase e) && may) t s (λ both. absurd (other (both_true (is_idle (s.queue.phase e)) may both).1)) (λ _. refl)) (λ _. refl)

  pub sender_bit : (k : ℕ) (b : Bool) → s.senders k ≢ b → sleeper_happens n size s (SenderSigns e (FindsBit k b)) ≡ s
  sender_bit k b other = no_event (is_as b (s.senders k)) (sender_signs n s e (FindsBit k b)) (λ may. other (as_found b (s.senders k) may))

  pub receiver_bit : (k : ℕ) (b : Bool) → s.receivers k ≢ b → sleeper_happens n size s (ReceiverSigns e (FindsBit k b)) ≡ s
  receiver_bit k b other = no_event (is_as b (s.receivers k)) (receiver_signs n s e (FindsBit k b)) (λ may. other (as_found b (s.receivers k) may))

  pub sender_word : (w found : ℕ) → shows_bits s.senders w found ≡ false → sleeper_happens n size s (SenderSigns e (FindsWord w found)) ≡ s
  sender_word w found other = no_event (shows_bits s.senders w found) (sender_signs n s e (FindsWord w found)) (λ may. not_both (shows_bits s.senders w found) may other)

  pub receiver_word : (w found : ℕ) → shows_bits s.receivers w found ≡ false → sleeper_happens n size s (ReceiverSigns e (FindsWord w found)) ≡ s
  receiver_word w found other = no_event (shows_bits s.receivers w found) (receiver_signs n s e (FindsWord w found)) (λ may. not_both (shows_bits s.receivers w found) may other)
