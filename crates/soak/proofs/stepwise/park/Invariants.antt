use Rattle.std.proofs.Common.{◌≡◌}
use Rattle.fak_sem.specs.Standings.{IsParking}
use Rattle.soak.proofs.stepwise.park.Given as goal

-- the call is open
abbrev pub invariant-loop : goal.invariant-loop
invariant-loop g l = (l.seat.seat.object ≡ l.semaphore.object) × IsParking l.seat.standing
