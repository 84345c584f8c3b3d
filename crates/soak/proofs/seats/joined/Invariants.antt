use Rattle.std.proofs.Common.{◌≡◌, vec_len}
use Rattle.soak.specs.Seats.{AreIdleSeats}
use Rattle.soak.proofs.seats.joined.Given as goal

-- the seats that are left, and the tally, belong to the queue
abbrev pub invariant-loop-seat : goal.invariant-loop-seat
invariant-loop-seat g l = AreIdleSeats l.queue.object l.seats.items × (l.tally.object ≡ l.queue.object)

abbrev pub decreases-loop-seat : goal.decreases-loop-seat
decreases-loop-seat g l = vec_len l.seats
