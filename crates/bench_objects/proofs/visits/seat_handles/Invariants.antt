use Rattle.std.proofs.Common.{◌<◌, vec_len}
use Rattle.bench_objects.specs.Seats.{AreFree}
use Rattle.bench_objects.proofs.visits.seat_handles.Given as goal

-- what is left to deal is free
abbrev pub invariant-loop-seat : goal.invariant-loop-seat
invariant-loop-seat l = AreFree l.table.object l.seats.items × (0 < l.table.entries)

abbrev pub decreases-loop-seat : goal.decreases-loop-seat
decreases-loop-seat l = vec_len l.seats
