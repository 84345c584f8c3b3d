use Rattle.std.proofs.Common.{◌≡◌}
use Rattle.std.specs.List.{All}
use Rattle.fak_sem_tests.proofs.stepwise.by_steps.Given as goal

-- both kinds of seats belong to the semaphore
abbrev pub invariant-loop : goal.invariant-loop
invariant-loop g l = All (λ s. s.object ≡ l.semaphore.object) l.seats.items × All (λ s. s.seat.object ≡ l.semaphore.object) l.steps.items
