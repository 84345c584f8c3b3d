use Rattle.std.proofs.Common.{◌≡◌}
use Rattle.fak_sem.specs.declared.standing.Standing.TheVariants.{Idle}
use Rattle.soak.proofs.semaphores.downs_by_steps.Given as goal

-- the seat belongs to the semaphore, and is between two calls
abbrev pub invariant-loop-number : goal.invariant-loop-number
invariant-loop-number g l = (l.steps.seat.object ≡ l.semaphore.object) × (l.steps.standing ≡ Idle)
