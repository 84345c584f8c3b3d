use Rattle.std.proofs.Common.{◌<◌, vec_len}
use Rattle.soak.specs.Seats.{AreFree}
use Rattle.soak.proofs.files.visits.Given as goal

-- the seats that are still to be dealt are free
abbrev pub invariant-loop-seat : goal.invariant-loop-seat
invariant-loop-seat l = AreFree l.table.object l.seats.items × (0 < l.table.entries)

abbrev pub decreases-loop-seat : goal.decreases-loop-seat
decreases-loop-seat l = vec_len l.seats
