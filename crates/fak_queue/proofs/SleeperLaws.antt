-- The laws of the sleepers of a running queue.
use Rattle.std.specs.Prelude.{◌/◌, if◌then◌else◌, ◌||◌, ◌==◌}
use Rattle.fak_model.specs.declared.note.NoteKind.TheVariants.{AsReceiver}
use Rattle.fak_model.specs.declared.note.Sign.TheVariants.{PassesWord, WakesEnd}
use Rattle.fak_core.specs.declared.queue.phase.Phase.TheVariants.{Idle}
use Rattle.fak_core.specs.QueueMoves.{history_of}
use Rattle.fak_channel_core.specs.SleeperSides.{has_passed, less}
use Rattle.fak_channel_core.specs.SleeperMoves.{Account, after_note}
use Rattle.fak_channel_core.specs.SleeperSchedule.{AllEndsRest, IsResting}
use Rattle.fak_channel_core.proofs.SleeperKept.{SleeperKept}
use Rattle.fak_channel_core.proofs.SleeperReached.{kept_reached, receiver_waits, sender_waits}
use Rattle.fak_queue.specs.declared.role.Role.{Role}
use Rattle.fak_queue.specs.declared.role.Role.TheVariants.{Sender, Receiver}
use Rattle.fak_queue.specs.Accounts.{account_of, after_kinds, kinds_by}
use Rattle.fak_queue.specs.Queues.{kinds_in}
use Rattle.fak_queue.specs.Sleepers.{AreSleepers, bits_as, is_set}
use Rattle.fak_queue.specs.SleeperRest.{OwesNothing, IsBetweenCalls, account_in, IsAtRest, AllSeatsRest, SleepsAs}
use Rattle.fak_queue.proofs.SleeperNotes.{all_true}
use Rattle.fak_queue.proofs.Accounts.{kinds_foreign}
use Rattle.fak_queue.proofs.Stepping.{QueueTable}
use Rattle.fak_queue.proofs.Common.{Alike, QueueLimits, IsShownQueue, QueueState, contents, ◌≡◌, ℕ, ◌+◌, ◌<◌, ◌≤◌, [], length, sym, ap, ◌∙◌, subst, inl, inr, arith, true, false, reverse}

-- ---- all seats at rest

module _ {T : Type 0} (key : QueueLimits) (s : QueueTable T) (shown : IsShownQueue key s) where
  S : AreSleepers key.size key.seats shown.core shown.notes s.words
  S = shown.encoded.sleepers

  -- the account that a view tells is that of the sleepers
  account_is : (n : ℕ) (b : IsBetweenCalls s n) → S.state.accounts n ≡ account_in key.seats b
  account_is n b =
      let sees = shown.sees b.id b.view b.at in
      let kinds : kinds_by n shown.core.past ≡ kinds_by n b.view.seen = ap (kinds_by n) sees.is ∙ kinds_foreign n b.view.names sees.between b.view.seen b.named sees.foreign in
      S.accounts n ∙ (ap (λ l. account_of key.seats l (kinds_by n shown.core.past)) (shown.noted b.id b.view b.at n b.named b.notes b.known) ∙ ap (account_of key.seats b.notes) kinds)

  small : (n : ℕ) (b : IsBetweenCalls s n) → n < 1024
  small n b = let low = shown.below b.id b.view b.at n b.named in omega (arith, low, shown.encoded.few_seats)

  bit_is : (n : ℕ) (b : IsBetweenCalls s n) (role : Role) → is_set role key.size s.words n ≡ true → bits_as role S.state n ≡ true
  bit_is n b role is = sym (S.bits role n (small n b)) ∙ is

  resting : (n : ℕ) → IsAtRest key s n → IsResting S.state n
  resting n rest =
      let b = rest.between in
      let is = account_is n b in
      record {
        idle = ap (λ (q : QueueState T). q.phase n) S.queue ∙ shown.stands b.id b.view b.at n b.named (Alike Idle) b.idle;
        for_senders = ap (λ (g : Account). g.sender.looks) is ∙ rest.owes.for_senders;
        for_receivers = ap (λ (g : Account). g.receiver.looks) is ∙ rest.owes.for_receivers;
        checks = ap (λ (g : Account). g.checks) is ∙ rest.owes.checks;
        sender = elim (rest.each Sender) [ inl awake ↦ inl (ap (λ (g : Account). g.sender.stage) is ∙ awake) | inr asleep ↦ inr (record { asleep = ap (λ (g : Account). g.sender.stage) is ∙ asleep.0; bit = bit_is n b Sender asleep.1 }) ];
        receiver = elim (rest.each Receiver) [ inl awake ↦ inl (ap (λ (g : Account). g.receiver.stage) is ∙ awake) | inr asleep ↦ inr (record { asleep = ap (λ (g : Account). g.receiver.stage) is ∙ asleep.0; bit = bit_is n b Receiver asleep.1 }) ];
      }

  kept_now : SleeperKept key.seats key.size S.state
  kept_now = subst (SleeperKept key.seats key.size) S.leads (kept_reached key.seats key.size S.schedule shown.encoded.some_cell)

  module _ (n : ℕ) (all : AllSeatsRest key s) where
    rests : AllEndsRest key.seats S.state
    rests k l = resting k (all k l)

    pub receiver_waits_running : SleepsAs key s n Receiver → (contents (reverse shown.core.past) ≡ []) × (shown.core.shut ≡ false)
    receiver_waits_running sleeps =
        let b = sleeps.between in
        subst (λ (q : QueueState T). (contents (history_of q) ≡ []) × (q.shut ≡ false)) S.queue
        (receiver_waits key.seats key.size S.state kept_now rests n (record { asleep = ap (λ (g : Account). g.receiver.stage) (account_is n b) ∙ sleeps.asleep.0; bit = bit_is n b Receiver sleeps.asleep.1 }))

    pub sender_waits_running : SleepsAs key s n Sender → (length (contents (reverse shown.core.past)) ≡ key.size) × (shown.core.shut ≡ false)
    sender_waits_running sleeps =
        let b = sleeps.between in
        subst (λ (q : QueueState T). (length (contents (history_of q)) ≡ key.size) × (q.shut ≡ false)) S.queue
        (sender_waits key.seats key.size S.state kept_now rests n (record { asleep = ap (λ (g : Account). g.sender.stage) (account_is n b) ∙ sleeps.asleep.0; bit = bit_is n b Sender sleeps.asleep.1 }))

-- ---- an insertion

module _ {T : Type 0} (seats ticket : ℕ) (x : T) (g : Account) (none : OwesNothing g) where
  abbrev Inserted : Account
  Inserted = after_kinds seats (reverse (kinds_in ticket x)) g

  pub wakes_one : (other : ℕ) → OwesNothing (after_note seats (AsReceiver (WakesEnd other)) Inserted)
  wakes_one other = record { for_senders = none.for_senders; for_receivers = ap (λ l. less (l + 1)) none.for_receivers; checks = none.checks }

  pub passes_all : seats ≤ 64 → OwesNothing (after_note seats (AsReceiver (PassesWord 0)) Inserted)
  passes_all few =
      let all : has_passed seats (λ v. (v == 0) || Inserted.receiver.passed v) ≡ true = all_true (λ k. ((k / 64) == 0) || Inserted.receiver.passed (k / 64)) seats (λ k l. let word : k / 64 ≡ 0 = omega (arith, l, few) in ap (λ v. (v == 0) || Inserted.receiver.passed v) word) in
      record { for_senders = none.for_senders; for_receivers = ap (λ b. if b then 0 else Inserted.receiver.looks) all; checks = none.checks }
