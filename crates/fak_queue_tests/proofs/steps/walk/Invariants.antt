use Rattle.std.proofs.Common.{◌≡◌}
use Rattle.std.specs.List.{All}
use Rattle.fak_queue_tests.proofs.steps.walk.Given as goal

-- the seats belong to the queue
abbrev pub invariant-loop-row : goal.invariant-loop-row
invariant-loop-row g l = All (λ s. s.object ≡ l.queue.object) l.seats.items
