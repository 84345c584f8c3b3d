use Rattle.std.proofs.Common.{◌≡◌, ◌≤◌, ◌^◌}
use Rattle.fak_queue.specs.Queues.{drawn_by}
use Rattle.example_workers.specs.Counts.{Stands}
use Rattle.example_workers.proofs.pool.work.Given as goal

-- the seat has got the leap years counted so far, no more than it has drawn tickets
abbrev pub invariant-loop : goal.invariant-loop
invariant-loop g l =
    Stands l.queue.object 0 l.leap_years l.seat
    × (l.seat.stint ≡ 2 ^ 40)
    × (l.leap_years ≤ drawn_by l.seat)
    × (l.leap_years ≤ 2 ^ 40)
