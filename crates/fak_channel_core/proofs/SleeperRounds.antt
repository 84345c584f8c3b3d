-- The queue of a channel takes the queue's own events of a schedule, and so its calls end as those of a queue do.
use Rattle.std.specs.Prelude.{◌≡◌, ℕ, ◌+◌, ◌*◌, ◌<◌, ◌≤◌, nat_lt, min, ◌&&◌, Bool, true, false, List, [], ◌∷◌, length, map, cond}
use Rattle.std.specs.List.{All}
use Rattle.std.proofs.lemmas.List.{length-map}
use Rattle.fak_core.specs.QueueProgress.{IsIdleOnce, IsIdleWithin, IsRound, seat_of}
use Rattle.fak_core.specs.QueueSchedule.{QueueEvent, happens, run}
use Rattle.fak_core.proofs.Common.{refl, sym, ap, ◌∙◌, subst, inl, inr}
use Rattle.fak_core.proofs.QueueReached.{true_or_false}
use Rattle.fak_core.proofs.QueueRounds.{call_ends}
use Rattle.fak_core.proofs.QueueSteps.{by_test}
use Rattle.fak_model.specs.declared.note.NoteKind.TheVariants.{Checks}
use Rattle.fak_channel_core.specs.SleeperMoves.{SleeperState, sender_side, receiver_side, with_deed, is_void, sender_may, receiver_may, is_idle, sender_signs, receiver_signs, Notes}
use Rattle.fak_channel_core.specs.SleeperSchedule.{SleeperEvent, OfQueue, SenderSigns, ReceiverSigns, ChecksUpper, end_of, sleeper_event, sleeper_happens, sleeper_run, sleeper_reached, queue_events}
use Rattle.fak_channel_core.specs.SleeperProgress.{EndsCallOnce, EndsCallWithin}
use Rattle.fak_channel_core.proofs.SleeperTests.{if_so}
use Rattle.fak_channel_core.proofs.SleeperReached.{queue_goes, kept_reached}

if_not : {B : Type 0} (b : Bool) (x y : B) → b ≡ false → cond b x y ≡ y
if_not b x y t = cc

module _ {A : Type 0} (n size : ℕ) where
  -- ---- one event

  of_queue : (s : SleeperState A) (v : QueueEvent A) → nat_lt (seat_of v) n ≡ true → (sleeper_happens n size s (OfQueue v)).queue ≡ happens size s.queue v
  of_queue s v t = ap (λ (u : SleeperState A). u.queue) (if_so (nat_lt (seat_of v) n) (sleeper_event n size s (OfQueue v)) s t) ∙ queue_goes n size s v

  beyond : (s : SleeperState A) (v : SleeperEvent A) → nat_lt (end_of v) n ≡ false → sleeper_happens n size s v ≡ s
  beyond s v t = if_not (nat_lt (end_of v) n) (sleeper_event n size s v) s t

  abbrev Same : SleeperState A → SleeperState A → Type 0
  Same s t = t.queue ≡ s.queue

  sender_keeps : (s : SleeperState A) (e : ℕ) (v : _) → Same s (sleeper_happens n size s (SenderSigns e v))
  sender_keeps s e v = by_test (Same s) (nat_lt e n) (sleeper_event n size s (SenderSigns e v)) s
      (λ b. by_test (Same s) (is_idle (s.queue.phase e) && sender_may size s.queue (sender_side s) e v) (sender_signs n s e v) s (λ b. refl) (λ b. refl)) (λ b. refl)

  receiver_keeps : (s : SleeperState A) (e : ℕ) (v : _) → Same s (sleeper_happens n size s (ReceiverSigns e v))
  receiver_keeps s e v = by_test (Same s) (nat_lt e n) (sleeper_event n size s (ReceiverSigns e v)) s
      (λ b. by_test (Same s) (is_idle (s.queue.phase e) && receiver_may s.queue (receiver_side s) e v) (receiver_signs n s e v) s (λ b. refl) (λ b. refl)) (λ b. refl)

  check_keeps : (s : SleeperState A) (e : ℕ) → Same s (sleeper_happens n size s (ChecksUpper e))
  check_keeps s e = by_test (Same s) (nat_lt e n) (sleeper_event n size s (ChecksUpper e)) s
      (λ b. by_test (Same s) (is_idle (s.queue.phase e)) (with_deed n s e (Notes (Checks (s.queue.shut && is_void s.queue)))) s (λ b. refl) (λ b. refl)) (λ b. refl)

  -- ---- a schedule

  pub queue_runs : (vs : List (SleeperEvent A)) (s : SleeperState A) → (sleeper_run n size vs s).queue ≡ run size (queue_events n vs) s.queue
  queue_runs [] s = refl
  queue_runs (OfQueue v ∷ vs) s = elim (true_or_false (nat_lt (seat_of v) n)) [
    | inl t ↦ (queue_runs vs (sleeper_happens n size s (OfQueue v)) ∙ (ap (run size (queue_events n vs)) (of_queue s v t)
        ∙ ap (λ es. run size es s.queue) (sym (if_so (nat_lt (seat_of v) n) (v ∷ queue_events n vs) (queue_events n vs) t))))
    | inr f ↦ (queue_runs vs (sleeper_happens n size s (OfQueue v)) ∙ (ap (λ (u : SleeperState A). run size (queue_events n vs) u.queue) (beyond s (OfQueue v) f)
        ∙ ap (λ es. run size es s.queue) (sym (if_not (nat_lt (seat_of v) n) (v ∷ queue_events n vs) (queue_events n vs) f))))
  ]
  queue_runs (SenderSigns e v ∷ vs) s = queue_runs vs (sleeper_happens n size s (SenderSigns e v)) ∙ ap (run size (queue_events n vs)) (sender_keeps s e v)
  queue_runs (ReceiverSigns e v ∷ vs) s = queue_runs vs (sleeper_happens n size s (ReceiverSigns e v)) ∙ ap (run size (queue_events n vs)) (receiver_keeps s e v)
  queue_runs (ChecksUpper e ∷ vs) s = queue_runs vs (sleeper_happens n size s (ChecksUpper e)) ∙ ap (run size (queue_events n vs)) (check_keeps s e)

  -- ---- a call that ends

  module _ (e : ℕ) where
    ends_once : (vs : List (SleeperEvent A)) (s : SleeperState A) → IsIdleOnce size (queue_events n vs) s.queue e → EndsCallOnce n size vs s e
    ends_once [] s i = i
    ends_once (OfQueue v ∷ vs) s i = elim (true_or_false (nat_lt (seat_of v) n)) [
      | inl t ↦ elim (subst (λ es. IsIdleOnce size es s.queue e) (if_so (nat_lt (seat_of v) n) (v ∷ queue_events n vs) (queue_events n vs) t) i) [
        | inl idle ↦ inl idle
        | inr later ↦ inr (ends_once vs (sleeper_happens n size s (OfQueue v)) (subst (λ q. IsIdleOnce size (queue_events n vs) q e) (sym (of_queue s v t)) later))
      ]
      | inr f ↦ inr (ends_once vs (sleeper_happens n size s (OfQueue v)) (subst (λ (u : SleeperState A). IsIdleOnce size (queue_events n vs) u.queue e) (sym (beyond s (OfQueue v) f))
          (subst (λ es. IsIdleOnce size es s.queue e) (if_not (nat_lt (seat_of v) n) (v ∷ queue_events n vs) (queue_events n vs) f) i)))
    ]
    ends_once (SenderSigns k v ∷ vs) s i = inr (ends_once vs (sleeper_happens n size s (SenderSigns k v)) (subst (λ q. IsIdleOnce size (queue_events n vs) q e) (sym (sender_keeps s k v)) i))
    ends_once (ReceiverSigns k v ∷ vs) s i = inr (ends_once vs (sleeper_happens n size s (ReceiverSigns k v)) (subst (λ q. IsIdleOnce size (queue_events n vs) q e) (sym (receiver_keeps s k v)) i))
    ends_once (ChecksUpper k ∷ vs) s i = inr (ends_once vs (sleeper_happens n size s (ChecksUpper k)) (subst (λ q. IsIdleOnce size (queue_events n vs) q e) (sym (check_keeps s k)) i))

    ends_within : (rs : List (List (SleeperEvent A))) (s : SleeperState A) → IsIdleWithin size (map (queue_events n) rs) s.queue e → EndsCallWithin n size rs s e
    ends_within [] s i = i
    ends_within (r ∷ rs) s (inl once) = inl (ends_once r s once)
    ends_within (r ∷ rs) s (inr later) = inr (ends_within rs (sleeper_run n size r s) (subst (λ q. IsIdleWithin size (map (queue_events n) rs) q e) (sym (queue_runs r s)) later))

-- every call on the queue ends within 3 min(size, n) + 4 rounds of the events of the queue
pub every_call_ends : {A : Type 0} (n size e : ℕ) (vs : List (SleeperEvent A)) (rs : List (List (SleeperEvent A))) → 0 < size → All (IsRound n) (map (queue_events n) rs)
    → 3 * min size n + 4 ≤ length rs → EndsCallWithin n size rs (sleeper_reached n size vs) e
every_call_ends n size e vs rs z each more =
    let K = kept_reached n size vs z in
    ends_within n size e rs (sleeper_reached n size vs)
    (call_ends size n e (map (queue_events n) rs) (sleeper_reached n size vs).queue z K.queue K.beyond each (subst (λ k. 3 * min size n + 4 ≤ k) (sym (length-map rs (queue_events n))) more))
