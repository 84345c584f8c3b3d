use Rattle.std.proofs.Common.{◌≡◌}
use Rattle.fak_sem.specs.Standings.{IsWaking}
use Rattle.fak_sem.specs.Steps.{WakesSince}
use Rattle.fak_sem_tests.proofs.bounded.try_up.Given as goal

-- the call is still open since it was begun
abbrev pub invariant-loop : goal.invariant-loop
invariant-loop g l = (l.seat.seat.object ≡ l.semaphore.object) × IsWaking l.seat.standing × WakesSince l.semaphore l.fn.seat.seat l.seat
