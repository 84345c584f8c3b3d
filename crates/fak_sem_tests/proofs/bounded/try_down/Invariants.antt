use Rattle.std.proofs.Common.{◌≡◌}
use Rattle.fak_sem.specs.Standings.{IsParking}
use Rattle.fak_sem.specs.Steps.{ParksSince}
use Rattle.fak_sem_tests.proofs.bounded.try_down.Given as goal

-- the call is still open since it was begun
abbrev pub invariant-loop : goal.invariant-loop
invariant-loop g l = (l.seat.seat.object ≡ l.semaphore.object) × IsParking l.seat.standing × ParksSince l.semaphore l.fn.who l.fn.seat.seat l.seat
