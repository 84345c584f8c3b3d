use Rattle.std.proofs.Common.{◌≡◌}
use Rattle.std.specs.List.{All}
use Rattle.fak_queue_tests.proofs.bundle_steps.walk_bursts.Given as goal

-- the bundle and the seats belong to the queue
abbrev pub invariant-loop-row : goal.invariant-loop-row
invariant-loop-row g l = (l.bundle.object ≡ l.queue.object) × All (λ s. s.object ≡ l.queue.object) l.seats.items
