use Rattle.std.proofs.Common.{◌≡◌, ◌+◌, ◌≤◌}
use Rattle.fak_sem.specs.Semaphores.{IsIdleSemSeat, passed_by}
use Rattle.fak_sem_tests.proofs.rows.down_below.Given as goal

-- the seat belongs to the semaphore, and this many of its downs so far have passed
abbrev pub invariant-loop-who : goal.invariant-loop-who
invariant-loop-who g l = IsIdleSemSeat l.semaphore.object l.seat × (passed_by l.seat ≡ passed_by l.initial.seat + l.passed) × (l.passed ≤ l.who)
