use Rattle.soak.specs.Seats.{AreIdleSeats}
use Rattle.soak.proofs.bursts.threads.Given as goal

-- the seats that are still to be dealt are idle
abbrev pub invariant-loop-lane : goal.invariant-loop-lane
invariant-loop-lane l = AreIdleSeats l.queue.object l.seats.items
