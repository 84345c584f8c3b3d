use Rattle.std.proofs.Common.{◌≡◌}
use Rattle.std.specs.List.{All}
use Rattle.fak_sem_tests.proofs.large.each_seat_parks_and_wakes.Given as goal

-- the seats belong to the semaphore
abbrev pub invariant-loop-name : goal.invariant-loop-name
invariant-loop-name g l = All (λ s. s.object ≡ l.semaphore.object) l.seats.items
