use Rattle.std.proofs.Common.{◌≡◌}
use Rattle.fak_sem.specs.Standings.{IsWaking}
use Rattle.soak.proofs.stepwise.wake.Given as goal

-- the call is open
abbrev pub invariant-loop : goal.invariant-loop
invariant-loop g l = (l.seat.seat.object ≡ l.semaphore.object) × IsWaking l.seat.standing
