use Rattle.std.proofs.Common.{◌≡◌, ℕ, ◌<◌, List, [], arith, subst}
use Rattle.fak_model.specs.declared.queue.Mark.{Mark}
use Rattle.fak_model.specs.Histories.{Owes, seat_words}
use Rattle.fak_model.specs.Queue.{queue_rules, words_of_call}
use Rattle.fak_queue.specs.Queues.{size_of}
use Rattle.fak_callers.proofs.queues.tally_at_rest.Goals as goal

-- where there is one seat, its name is every name
only : (name seats : ℕ) (h : List (Mark ℕ)) → seats ≡ 1 → name ≡ 0 → Owes words_of_call (seat_words (queue_rules 0) name h) []
    → (n : ℕ) → n < seats → Owes words_of_call (seat_words (queue_rules 0) n h) []
only name seats h one first owes n low =
    let same : name ≡ n = omega arith in
    subst (λ (k : ℕ). Owes words_of_call (seat_words (queue_rules 0) k h) []) same owes

pub returns : goal.returns
returns c =
    let owes = rw (c.state-idle.ensures.value, c.requires.idle) at c.state-idle.ensures.read_off_seen in
    rw c.of.ensures.tally (c.a_seat_without_a_call_keeps_a_queue_history.ensures.rest (size_of c.args.seat.object) _ _ (rw c.of.ensures.tally at c.of.ensures.named) (only _ _ _ c.requires.only.0 c.requires.only.1 owes))
