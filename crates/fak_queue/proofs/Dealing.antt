-- The seats of a queue that are still to be dealt.
use Rattle.fak_core.specs.declared.queue.phase.Phase.TheVariants.{Idle}
use Rattle.fak_queue.specs.SleeperSeats.{AreUndealt}
use Rattle.fak_queue.proofs.Common.{Alike, QueueHolder, IsQueueSeat, queue_object, seat_of, sight, ◌≡◌, ℕ, ◌+◌, ◌<◌, [], ◌∷◌, ◌∙◌, arith, Some, dealt_is, fresh_token, kept_is}
use Rattle.fak_queue.proofs.Openings.{fresh_keeps}
use Rattle.fak_model.specs.Views.{dealt, kept}

module _ {T : Type 0} (size id : ℕ) {seats stint next : ℕ} {rest : QueueHolder T} (u : AreUndealt seats stint next rest) (low : next < seats) where
  -- the token of the next seat
  pub next_keeps : (slots : ℕ) {m : QueueHolder T} → m ≡ (dealt rest.0, []) → IsQueueSeat slots seats next Idle stint m
  next_keeps slots {m} is =
      let fresh : m ≡ (sight (next ∷ []) (Some []) [] Idle stint, []) = is ∙ dealt_is (queue_object size seats) (Alike Idle) stint next seats id rest low u.me_is in
      fresh_keeps slots seats next stint m fresh (fresh_token seat_of seats (Alike Idle) stint next m fresh low u.few)

  -- the token of the others
  pub others_keep : {m : QueueHolder T} → m ≡ (kept rest.0, rest.1) → AreUndealt seats stint (next + 1) m
  others_keep {m} is = record {
    few = u.few;
    some = omega (arith, low);
    me_is = is ∙ kept_is (queue_object size seats) (Alike Idle) stint next seats id rest low u.me_is;
  }
