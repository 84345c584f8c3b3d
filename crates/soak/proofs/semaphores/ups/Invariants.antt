use Rattle.std.proofs.Common.{◌≡◌}
use Rattle.soak.proofs.semaphores.ups.Given as goal

-- the seat belongs to the semaphore
abbrev pub invariant-loop : goal.invariant-loop
invariant-loop g l = l.seat.object ≡ l.semaphore.object
