use Rattle.std.proofs.Common.{vec_len}
use Rattle.bench_objects.specs.Seats.{AreIdleSeats}
use Rattle.bench_objects.proofs.queues.seat_handles.Given as goal

-- what is left to deal is idle
abbrev pub invariant-loop-seat : goal.invariant-loop-seat
invariant-loop-seat g l = AreIdleSeats l.queue.object l.seats.items

abbrev pub decreases-loop-seat : goal.decreases-loop-seat
decreases-loop-seat g l = vec_len l.seats
