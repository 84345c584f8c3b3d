-- What is true of a channel whose sleepers are bits in every reached state, and what follows if all ends rest.
use Rattle.std.specs.Prelude.{◌≡◌, ℕ, ◌+◌, ◌<◌, nat_lt, cond, pos, ◌≤ℤ◌, ◌&&◌, Bool, true, false, Option, None, Some, List, [], ◌∷◌, length}
use Rattle.fak_model.specs.Queue.{contents}
use Rattle.fak_core.specs.declared.queue.phase.Phase.{Phase}
use Rattle.fak_core.specs.declared.queue.phase.Phase.TheVariants.{Idle}
use Rattle.fak_core.specs.declared.queue.step.QueueMove.{QueueMove}
use Rattle.fak_core.specs.QueueMoves.{next_move, history_of, with_at}
use Rattle.fak_core.specs.QueueSchedule.{QueueEvent, Inserts, Deletes, Shuts, Advances, after_step, happens}
use Rattle.fak_core.proofs.Common.{arith, ints, refl, ap, ◌∙◌, inl, inr}
use Rattle.fak_core.proofs.QueueSteps.{by_test, kept_opening}
use Rattle.fak_core.proofs.QueueReached.{true_or_false}
use Rattle.fak_core.proofs.QueueTurns.{at_here, at_else, le_or_lt}
use Rattle.fak_channel_core.specs.SleeperSides.{Duty, owes_look}
use Rattle.fak_model.specs.declared.note.NoteKind.TheVariants.{Checks}
use Rattle.fak_channel_core.specs.SleeperMoves.{Account, free_duty, SleeperState, sleeper_opening, sender_side, receiver_side, with_deed, queue_step, queue_event, is_void, sender_may, receiver_may, is_idle, sender_signs, receiver_signs, Notes}
use Rattle.fak_channel_core.specs.SleeperSchedule.{SleeperEvent, OfQueue, SenderSigns, ReceiverSigns, ChecksUpper, end_of, sleeper_event, sleeper_happens, sleeper_run, sleeper_reached, SenderSleeps, ReceiverSleeps, AllEndsRest}
use Rattle.fak_channel_core.proofs.SleeperCounts.{rested, holds_none, holds_all}
use Rattle.fak_channel_core.proofs.SleeperTests.{not_both, both_true, make_both, lt_if, void_at}
use Rattle.fak_channel_core.proofs.SleeperWeights.{SideKept, owed, owed_most, stirs, is_asleep, is_past, none_passed, sum_zero, owed_none, stirs_none}
use Rattle.fak_channel_core.proofs.SleeperKept.{tries_in, tries_out, asks_in, asks_out, leaves_in, leaves_out, room_of, close_of, item_of, end_of as end_weight, room_total, close_total, item_total, end_total, SleeperKept, kept_sender, kept_receiver}
use Rattle.fak_channel_core.proofs.SleeperQueue.{Stays, Moves, changes, kept_queue_event}

-- ---- the load of the upper count

kept_check : {A : Type 0} (n size : ℕ) (s : SleeperState A) (e : ℕ) → e < n → SleeperKept n size s → SleeperKept n size (with_deed n s e (Notes (Checks (s.queue.shut && is_void s.queue))))
kept_check {A} n size s e l K =
    let g = s.accounts e in let p = s.queue.phase e in let d = s.queue.shut && is_void s.queue in
    by_test (λ (r : Duty). SleeperKept n size (After r)) d (owes_look g.receiver) g.receiver
    (λ b. step (owes_look g.receiver)
    (record { relies_in = refl; relies_out = refl; asleep_in = refl; asleep_out = refl; past_out = refl; open_in = λ h. h; open_out = λ h all. absurd (none_passed n e l all) })
    (record {
      room = λ b S S' c e t free. let h = c free in omega (arith, ints);
      close = λ b S S' c e t shut. let h = c shut in omega arith;
      items = λ b S S' c e t. let w = owed_most b g.receiver in omega (arith, ints);
      ends = λ b S S' c e t shut v. omega arith;
    }))
    (λ b. step g.receiver
    (record { relies_in = refl; relies_out = refl; asleep_in = refl; asleep_out = refl; past_out = refl; open_in = λ h. h; open_out = λ h. h })
    (record {
      room = λ b S S' c e t free. let h = c free in omega (arith, ints);
      close = λ b S S' c e t shut. let h = c shut in omega arith;
      items = λ b S S' c e t. omega (arith, ints);
      ends = λ b' S S' c e t shut v. absurd (not_both (s.queue.shut && is_void s.queue) (make_both s.queue.shut (is_void s.queue) shut v) b);
    }))
  where
    after : Duty → Account
    after r = record (s.accounts e) { receiver = r; checks = false }

    After : Duty → SleeperState A
    After r = record (with_deed n s e (Notes (Checks (s.queue.shut && is_void s.queue)))) { accounts = with_at s.accounts e (record (s.accounts e) { receiver = r; checks = false }) }

    step : (r : Duty) → Stays n (s.accounts e) (record (s.accounts e) { receiver = r; checks = false })
        → Moves size s.queue s.queue (s.accounts e) (record (s.accounts e) { receiver = r; checks = false }) (s.queue.phase e) (s.queue.phase e) (s.senders e) (s.receivers e) → SleeperKept n size (After r)
    step r T M =
        let g' : Account = record (s.accounts e) { receiver = r; checks = false } in
        changes n size s e l K (s.queue.phase e) (s.queue.phase e) g' s.queue (with_at s.accounts e g') (with_deed n s e (Notes (Checks (s.queue.shut && is_void s.queue)))).log refl (at_here s.accounts e g') refl
        (λ k ne. at_else s.accounts e k g' ne) (λ k ne. refl) K.queue T M

-- ---- every schedule

kept_event : {A : Type 0} (n size : ℕ) (s : SleeperState A) (v : SleeperEvent A) → 0 < size → end_of v < n → SleeperKept n size s → SleeperKept n size (sleeper_event n size s v)
kept_event n size s (OfQueue v) z l K = kept_queue_event n size s v l z K
kept_event n size s (SenderSigns e v) z l K =
    by_test (SleeperKept n size) (is_idle (s.queue.phase e) && sender_may size s.queue (sender_side s) e v) (sender_signs n s e v) s
    (λ b. let t = both_true (is_idle (s.queue.phase e)) (sender_may size s.queue (sender_side s) e v) b in kept_sender n size s e l K t.0 v t.1) (λ b. K)
kept_event n size s (ReceiverSigns e v) z l K =
    by_test (SleeperKept n size) (is_idle (s.queue.phase e) && receiver_may s.queue (receiver_side s) e v) (receiver_signs n s e v) s
    (λ b. let t = both_true (is_idle (s.queue.phase e)) (receiver_may s.queue (receiver_side s) e v) b in kept_receiver n size s e l K t.0 v t.1) (λ b. K)
kept_event n size s (ChecksUpper e) z l K =
    by_test (SleeperKept n size) (is_idle (s.queue.phase e)) (with_deed n s e (Notes (Checks (s.queue.shut && is_void s.queue)))) s (λ b. kept_check n size s e l K) (λ b. K)

pub kept_happens : {A : Type 0} (n size : ℕ) (s : SleeperState A) (v : SleeperEvent A) → 0 < size → SleeperKept n size s → SleeperKept n size (sleeper_happens n size s v)
kept_happens n size s v z K = by_test (SleeperKept n size) (nat_lt (end_of v) n) (sleeper_event n size s v) s (λ b. kept_event n size s v z (lt_if (end_of v) n b) K) (λ b. K)

pub kept_run : {A : Type 0} (n size : ℕ) (vs : List (SleeperEvent A)) (s : SleeperState A) → 0 < size → SleeperKept n size s → SleeperKept n size (sleeper_run n size vs s)
kept_run n size [] s z K = K
kept_run n size (v ∷ vs) s z K = kept_run n size vs (sleeper_happens n size s v) z (kept_happens n size s v z K)

pub kept_sleeper_opening : {A : Type 0} (n size : ℕ) → 0 < size → SleeperKept {A = A} n size sleeper_opening
kept_sleeper_opening n size z = record {
  queue = kept_opening size z;
  beyond = λ k le. refl;
  senders = none;
  receivers = none;
  room = λ b a. absurd (not_set a);
  close = λ b a. absurd (not_set a);
  items = λ b a. absurd (not_set a);
  ends = λ b a. absurd (not_set a);
}
  where
    not_set : false ≡ true → ⊥
    not_set e = cc

    none : SideKept n (λ k. free_duty) (λ k. false)
    none = record { owner = λ k set. absurd (not_set set); beyond = λ k le. refl; finished = λ k all. refl }

pub kept_reached : {A : Type 0} (n size : ℕ) (vs : List (SleeperEvent A)) → 0 < size → SleeperKept n size (sleeper_reached n size vs)
kept_reached n size vs z = kept_run n size vs sleeper_opening z (kept_sleeper_opening n size z)

-- ---- the queue goes its own way

stepped : {A : Type 0} (n : ℕ) (s : SleeperState A) (e : ℕ) (o : Option (QueueMove A)) → (queue_step n s e o).queue ≡ after_step s.queue e o
stepped n s e None = refl
stepped n s e (Some m) = refl

pub queue_goes : {A : Type 0} (n size : ℕ) (s : SleeperState A) (v : QueueEvent A) → (queue_event n size s v).queue ≡ happens size s.queue v
queue_goes n size s (Inserts e x) = refl
queue_goes n size s (Deletes e) = refl
queue_goes n size s (Shuts e) = refl
queue_goes n size s (Advances e) = stepped n s e (next_move size s.queue (s.queue.phase e))

-- ---- if all ends rest

module _ {A : Type 0} (n size : ℕ) (s : SleeperState A) (K : SleeperKept n size s) (rests : AllEndsRest n s) where
  idle : (k : ℕ) → s.queue.phase k ≡ Idle
  idle k = elim (le_or_lt n k) [ inl le ↦ K.beyond k le | inr lt ↦ (rests k lt).idle ]

  sender_rests : (b k : ℕ) → k < n → (t : Bool) → owed b (s.accounts k).sender + stirs (s.accounts k).sender.stage (s.senders k) t ≡ 0
  sender_rests b k l t =
      let r = rests k l in let a = owed_none b (s.accounts k).sender r.for_senders in
      let c = stirs_none (s.accounts k).sender.stage (s.senders k) t (elim r.sender [ inl h ↦ inl h | inr h ↦ inr (h.asleep, h.bit) ]) in omega arith

  receiver_rests : (b k : ℕ) → k < n → (t : Bool) → owed b (s.accounts k).receiver + stirs (s.accounts k).receiver.stage (s.receivers k) t ≡ 0
  receiver_rests b k l t =
      let r = rests k l in let a = owed_none b (s.accounts k).receiver r.for_receivers in
      let c = stirs_none (s.accounts k).receiver.stage (s.receivers k) t (elim r.receiver [ inl h ↦ inl h | inr h ↦ inr (h.asleep, h.bit) ]) in omega arith

  call_none : (w : Phase A → ℕ) → w Idle ≡ 0 → (k : ℕ) → w (s.queue.phase k) ≡ 0
  call_none w z k = ap w (idle k) ∙ z

  room_none : (b : ℕ) → room_total n s b ≡ 0
  room_none b = sum_zero (λ k. room_of b (s.accounts k) (s.queue.phase k) (s.senders k)) n
      (λ k l. let a = sender_rests b k l (tries_in (s.queue.phase k)) in let c = call_none asks_in refl k in omega arith)

  close_none : (b : ℕ) → close_total n s b ≡ 0
  close_none b = sum_zero (λ k. close_of b (s.accounts k) (s.queue.phase k) (s.senders k)) n
      (λ k l. let a = sender_rests b k l (tries_in (s.queue.phase k)) in let c = call_none leaves_in refl k in omega arith)

  item_none : (b : ℕ) → item_total n s b ≡ 0
  item_none b = sum_zero (λ k. item_of b (s.accounts k) (s.queue.phase k) (s.receivers k)) n
      (λ k l. let a = receiver_rests b k l (tries_out (s.queue.phase k)) in let c = call_none asks_out refl k in omega arith)

  end_none : (b : ℕ) → end_total n s b ≡ 0
  end_none b = sum_zero (λ k. end_weight b (s.accounts k) (s.queue.phase k) (s.receivers k)) n
      (λ k l. let a = receiver_rests b k l (tries_out (s.queue.phase k)) in let c = call_none leaves_out refl k in
      let r = rests k l in let d = ap {B = ℕ} (λ c. cond c 1 0) r.checks in omega arith)

  pub receiver_waits : (e : ℕ) → ReceiverSleeps s e → (contents (history_of s.queue) ≡ []) × (s.queue.shut ≡ false)
  receiver_waits e sleeps =
      let items = K.items e (ap is_past sleeps.asleep) sleeps.bit in let none = item_none e in
      let low : s.queue.lower ≤ℤ pos 0 = omega (arith, ints) in
      let r = rested size s.queue K.queue idle in let r0 = r.0 in let r1 = r.1 in
      let high : s.queue.upper ≤ℤ pos 0 = omega (arith, ints) in (
        holds_none size s.queue K.queue idle low,
        elim (true_or_false s.queue.shut) [
          | inl is_shut ↦ (let some = K.ends e (ap is_asleep sleeps.asleep) sleeps.bit is_shut (void_at s.queue.upper high) in let none = end_none e in absurd (omega arith))
          | inr not_shut ↦ not_shut
        ],
      )

  pub sender_waits : (e : ℕ) → SenderSleeps s e → (length (contents (history_of s.queue)) ≡ size) × (s.queue.shut ≡ false)
  sender_waits e sleeps =
      elim (true_or_false s.queue.shut) [
        | inl is_shut ↦ (let some = K.close e (ap is_asleep sleeps.asleep) sleeps.bit is_shut in let none = close_none e in absurd (omega arith))
        | inr not_shut ↦ (let some = K.room e (ap is_asleep sleeps.asleep) sleeps.bit not_shut in let none = room_none e in
            let high : pos size ≤ℤ s.queue.upper = omega (arith, ints) in (holds_all size s.queue K.queue idle high, not_shut))
      ]
