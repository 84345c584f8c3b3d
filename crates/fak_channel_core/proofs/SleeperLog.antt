-- The log of a channel whose sleepers are bits tells the account of each end, and has the marks of the queue.
use Rattle.std.specs.Prelude.{◌≡◌, ◌≢◌, ℕ, nat_lt, ◌&&◌, Option, None, Some, List, [], ◌∷◌}
use Rattle.fak_model.specs.declared.queue.Kind.{Kind}
use Rattle.fak_core.specs.declared.queue.phase.Phase.{Phase}
use Rattle.fak_core.specs.declared.queue.phase.Phase.TheVariants.{Idle}
use Rattle.fak_core.specs.declared.queue.phase.Phase.TheVariants as queue
use Rattle.fak_core.specs.declared.queue.step.QueueMove.{QueueMove}
use Rattle.fak_core.specs.QueueMoves.{next_move, with_at, past_after}
use Rattle.fak_core.specs.QueueSchedule.{Inserts, Deletes, Shuts, Advances, begun}
use Rattle.fak_core.proofs.Common.{refl, sym, ap, ◌∙◌, subst, inl, inr, same_or_not, cond_here, cond_else}
use Rattle.fak_core.proofs.QueueSteps.{by_test}
use Rattle.fak_core.proofs.QueueTurns.{at_here, at_else}
use Rattle.fak_model.specs.declared.note.NoteKind.TheVariants.{AsSender, AsReceiver, Checks}
use Rattle.fak_channel_core.specs.SleeperMoves.{Deed, Marks, after_deed, account_by, after_mark, with_mark, SleeperState, sleeper_opening, sender_side, receiver_side, with_deed, queue_step, is_void, sender_may, receiver_may, is_idle, sender_signs, receiver_signs, Notes}
use Rattle.fak_channel_core.specs.SleeperSchedule.{SleeperEvent, OfQueue, SenderSigns, ReceiverSigns, ChecksUpper, end_of, sleeper_event, sleeper_happens, sleeper_run, sleeper_reached, marks_in}

pub record IsTold {A : Type 0} (n : ℕ) (s : SleeperState A) : Type 0 where
  pub accounts : (k : ℕ) → s.accounts k ≡ account_by n k s.log
  pub marks : marks_in s.log ≡ s.queue.past

-- ---- one more deed

module _ {A : Type 0} (n : ℕ) (s : SleeperState A) (e : ℕ) (T : IsTold n s) where
  told_deed : (x : Deed A) (k : ℕ) → (with_deed n s e x).accounts k ≡ account_by n k (with_deed n s e x).log
  told_deed x k = elim (same_or_not k e) [
    | inl q ↦ subst (λ j. (with_deed n s e x).accounts j ≡ account_by n j (with_deed n s e x).log) (sym q)
        (at_here s.accounts e (after_deed n x (s.accounts e))
        ∙ (ap (after_deed n x) (T.accounts e) ∙ sym (cond_here e (after_deed n x (account_by n e s.log)) (account_by n e s.log))))
    | inr ne ↦ at_else s.accounts e k (after_deed n x (s.accounts e)) ne ∙ (T.accounts k ∙ sym (cond_else k e (after_deed n x (account_by n k s.log)) (account_by n k s.log) ne))
  ]

  told_mark : (o : Option (Kind A)) (k : ℕ) → with_at s.accounts e (after_mark n o (s.accounts e)) k ≡ account_by n k (with_mark e o s.log)
  told_mark None k = elim (same_or_not k e) [
    | inl q ↦ ap (with_at s.accounts e (s.accounts e)) q ∙ (at_here s.accounts e (s.accounts e) ∙ (ap s.accounts (sym q) ∙ T.accounts k))
    | inr ne ↦ at_else s.accounts e k (s.accounts e) ne ∙ T.accounts k
  ]
  told_mark (Some κ) k = told_deed (Marks κ) k

  marks_after : (o : Option (Kind A)) → marks_in (with_mark e o s.log) ≡ past_after e o s.queue.past
  marks_after None = T.marks
  marks_after (Some κ) = ap (λ h. record { seat = e; kind = κ } ∷ h) T.marks

  told_step : (o : Option (QueueMove A)) → IsTold n (queue_step n s e o)
  told_step None = T
  told_step (Some m) = record { accounts = told_mark m.mark; marks = marks_after m.mark }

  told_begin : (p f : Phase A) → IsTold n (record s { queue = begun s.queue e f p })
  told_begin queue.Idle f = record { accounts = T.accounts; marks = T.marks }
  told_begin _ f = T

-- ---- every schedule

told_event : {A : Type 0} (n size : ℕ) (s : SleeperState A) (v : SleeperEvent A) → IsTold n s → IsTold n (sleeper_event n size s v)
told_event n size s (OfQueue (Inserts e x)) T = told_begin n s e T (s.queue.phase e) (queue.TestUp x)
told_event n size s (OfQueue (Deletes e)) T = told_begin n s e T (s.queue.phase e) queue.TestLow
told_event n size s (OfQueue (Shuts e)) T = told_begin n s e T (s.queue.phase e) queue.SetShut
told_event n size s (OfQueue (Advances e)) T = told_step n s e T (next_move size s.queue (s.queue.phase e))
told_event n size s (SenderSigns e v) T =
    by_test (IsTold n) (is_idle (s.queue.phase e) && sender_may size s.queue (sender_side s) e v) (sender_signs n s e v) s
    (λ b. record { accounts = told_deed n s e T (Notes (AsSender v)); marks = T.marks }) (λ b. T)
told_event n size s (ReceiverSigns e v) T =
    by_test (IsTold n) (is_idle (s.queue.phase e) && receiver_may s.queue (receiver_side s) e v) (receiver_signs n s e v) s
    (λ b. record { accounts = told_deed n s e T (Notes (AsReceiver v)); marks = T.marks }) (λ b. T)
told_event n size s (ChecksUpper e) T =
    by_test (IsTold n) (is_idle (s.queue.phase e)) (with_deed n s e (Notes (Checks (s.queue.shut && is_void s.queue)))) s
    (λ b. record { accounts = told_deed n s e T (Notes (Checks (s.queue.shut && is_void s.queue))); marks = T.marks }) (λ b. T)

told_run : {A : Type 0} (n size : ℕ) (vs : List (SleeperEvent A)) (s : SleeperState A) → IsTold n s → IsTold n (sleeper_run n size vs s)
told_run n size [] s T = T
told_run n size (v ∷ vs) s T =
    told_run n size vs (sleeper_happens n size s v) (by_test (IsTold n) (nat_lt (end_of v) n) (sleeper_event n size s v) s (λ b. told_event n size s v T) (λ b. T))

pub told_reached : {A : Type 0} (n size : ℕ) (vs : List (SleeperEvent A)) → IsTold n (sleeper_reached n size vs)
told_reached n size vs = told_run n size vs sleeper_opening (record { accounts = λ k. refl; marks = refl })

-- ---- an end's account changes only by its own events

module _ {A : Type 0} (n size : ℕ) (s : SleeperState A) (k : ℕ) where
  abbrev Same : SleeperState A → Type 0
  Same t = t.accounts k ≡ s.accounts k

  same_step : (e : ℕ) → k ≢ e → (o : Option (QueueMove A)) → Same (queue_step n s e o)
  same_step e ne None = refl
  same_step e ne (Some m) = at_else s.accounts e k (after_mark n m.mark (s.accounts e)) ne

  same_deed : (e : ℕ) → k ≢ e → (x : Deed A) → Same (with_deed n s e x)
  same_deed e ne x = at_else s.accounts e k (after_deed n x (s.accounts e)) ne

  same_event : (v : SleeperEvent A) → k ≢ end_of v → Same (sleeper_event n size s v)
  same_event (OfQueue (Inserts e x)) ne = refl
  same_event (OfQueue (Deletes e)) ne = refl
  same_event (OfQueue (Shuts e)) ne = refl
  same_event (OfQueue (Advances e)) ne = same_step e ne (next_move size s.queue (s.queue.phase e))
  same_event (SenderSigns e v) ne =
      by_test Same (is_idle (s.queue.phase e) && sender_may size s.queue (sender_side s) e v) (sender_signs n s e v) s (λ b. same_deed e ne (Notes (AsSender v))) (λ b. refl)
  same_event (ReceiverSigns e v) ne =
      by_test Same (is_idle (s.queue.phase e) && receiver_may s.queue (receiver_side s) e v) (receiver_signs n s e v) s (λ b. same_deed e ne (Notes (AsReceiver v))) (λ b. refl)
  same_event (ChecksUpper e) ne =
      by_test Same (is_idle (s.queue.phase e)) (with_deed n s e (Notes (Checks (s.queue.shut && is_void s.queue)))) s
      (λ b. same_deed e ne (Notes (Checks (s.queue.shut && is_void s.queue)))) (λ b. refl)

  pub own_account : (v : SleeperEvent A) → k ≢ end_of v → Same (sleeper_happens n size s v)
  own_account v ne = by_test Same (nat_lt (end_of v) n) (sleeper_event n size s v) s (λ b. same_event v ne) (λ b. refl)
