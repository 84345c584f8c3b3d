use Rattle.std.proofs.Common.{◌≡◌, vec_len}
use Rattle.soak.specs.Seats.{AreSeatsOf}
use Rattle.soak.proofs.semaphores.joined.Given as goal

-- the seats that are left, and the tally, belong to the semaphore
abbrev pub invariant-loop-seat : goal.invariant-loop-seat
invariant-loop-seat l = AreSeatsOf l.semaphore.object l.seats.items × (l.tally.object ≡ l.semaphore.object)

abbrev pub decreases-loop-seat : goal.decreases-loop-seat
decreases-loop-seat l = vec_len l.seats
