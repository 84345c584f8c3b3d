use Rattle.std.proofs.Common.{vec_len}
use Rattle.soak.specs.Seats.{AreCountsOf}
use Rattle.soak.proofs.counts.spenders.Given as goal

-- the seats that are still to be dealt belong to the same object
abbrev pub invariant-loop-seat : goal.invariant-loop-seat
invariant-loop-seat l = AreCountsOf l.account.object l.seats.items

abbrev pub decreases-loop-seat : goal.decreases-loop-seat
decreases-loop-seat l = vec_len l.seats
