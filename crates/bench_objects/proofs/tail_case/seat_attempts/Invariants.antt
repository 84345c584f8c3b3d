use Rattle.std.proofs.Common.{vec_len}
use Rattle.bench_objects.specs.Seats.{AreIdleSeats}
use Rattle.bench_objects.proofs.tail_case.seat_attempts.Given as goal

-- what is left to deal is idle
abbrev pub invariant-loop-seat : goal.invariant-loop-seat
invariant-loop-seat l = AreIdleSeats l.queue.object l.seats.items

abbrev pub decreases-loop-seat : goal.decreases-loop-seat
decreases-loop-seat l = vec_len l.seats
