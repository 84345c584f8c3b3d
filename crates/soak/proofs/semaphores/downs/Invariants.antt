use Rattle.std.proofs.Common.{◌≡◌}
use Rattle.soak.proofs.semaphores.downs.Given as goal

-- the seat belongs to the semaphore
abbrev pub invariant-loop-number : goal.invariant-loop-number
invariant-loop-number g l = l.seat.object ≡ l.semaphore.object
