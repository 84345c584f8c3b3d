use Rattle.std.proofs.Common.{◌≡◌}
use Rattle.std.specs.List.{All}
use Rattle.fak_queue_tests.proofs.steps.joined.Given as goal

-- the seats that are left, and the tally, belong to the queue
abbrev pub invariant-loop : goal.invariant-loop
invariant-loop g l = All (λ s. s.object ≡ l.queue.object) l.seats.items × (l.tally.object ≡ l.queue.object)
