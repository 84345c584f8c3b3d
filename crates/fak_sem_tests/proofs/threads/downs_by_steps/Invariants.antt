use Rattle.std.proofs.Common.{◌≡◌}
use Rattle.fak_sem_tests.proofs.threads.downs_by_steps.Given as goal

-- the seat belongs to the semaphore
abbrev pub invariant-loop-i : goal.invariant-loop-i
invariant-loop-i g l = l.seat.object ≡ l.semaphore.object
