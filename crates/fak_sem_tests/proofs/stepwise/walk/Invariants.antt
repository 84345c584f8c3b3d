use Rattle.std.proofs.Common.{◌≡◌}
use Rattle.std.specs.List.{All}
use Rattle.fak_sem_tests.proofs.stepwise.walk.Given as goal

-- the seats belong to the semaphore
abbrev pub invariant-loop-number : goal.invariant-loop-number
invariant-loop-number g l = All (λ s. s.seat.object ≡ l.semaphore.object) l.seats.items
