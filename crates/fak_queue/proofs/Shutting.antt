-- The shut bit of a queue, between any two atomic steps.
use Rattle.fak_queue.proofs.Common.{QueueLimits, IsShownQueue, QueueView, shut_bit, shut_part, ◌≡◌, ◌+◌, ◌-◌, ◌≤◌, ◌↔◌, arith, ap, ◌∙◌, inl, inr, slice_index, pos, ◌+ℤ◌, Option, ints, count, upper_raise, upper_drop, Has, bias, State, Close, upper_range, true_or_false, kept}
use Rattle.fak_queue.proofs.Stepping.{below_of}
use Rattle.fak_queue.proofs.WordWrites.{shut_above, open_below}

pub shut_exactly : {T : Type 0} (key : QueueLimits) (s : State (Option T) (QueueView T)) (shown : IsShownQueue key s) → (shut_bit ≤ slice_index s.words 16) ↔ Has Close shown.core.past
shut_exactly key s shown =
    let core = shown.core in
    let K = kept key.size core shown.reached.reached shown.encoded.some_cell in
    let g = upper_range key.size key.seats core.past K.legal (below_of key.seats core.past shown.named) in
    let most = count upper_raise core.past - count upper_drop core.past in
    let is : pos 0 +ℤ core.upper ≡ pos most = omega (arith, ints, K.upper, g.0) in
    let word = shown.encoded.words_are.upper_is in
    elim (true_or_false core.shut) [
      | inl shut ↦ ((λ high. K.closed.0 shut), (λ has. shut_above (slice_index s.words 16) 0 most core.upper (word ∙ ap (λ b. pos (shut_part b + bias) +ℤ core.upper) shut) is (omega arith)))
      | inr unshut ↦ (let low = open_below (slice_index s.words 16) 0 most core.upper (word ∙ ap (λ b. pos (shut_part b + bias) +ℤ core.upper) unshut) is (omega (arith, g.0, g.1, shown.encoded.few_seats, shown.encoded.few_cells)) in
          ((λ high. absurd (omega (arith, high, low))), (λ has. absurd (K.closed.1 unshut has))))
    ]
