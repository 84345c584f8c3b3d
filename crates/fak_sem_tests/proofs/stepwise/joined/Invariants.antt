use Rattle.std.proofs.Common.{◌≡◌}
use Rattle.std.specs.List.{All}
use Rattle.fak_sem_tests.proofs.stepwise.joined.Given as goal

-- the seats that are left, and the tally, belong to the semaphore
abbrev pub invariant-loop : goal.invariant-loop
invariant-loop g l = All (λ s. s.seat.object ≡ l.semaphore.object) l.seats.items × (l.tally.object ≡ l.semaphore.object)
