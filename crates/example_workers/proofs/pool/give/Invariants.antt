use Rattle.std.proofs.Common.{take}
use Rattle.std.specs.List.{count_by}
use Rattle.example_workers.specs.Leap.{is_leap}
use Rattle.example_workers.specs.Counts.{Stands}
use Rattle.example_workers.proofs.pool.give.Given as goal

-- the seat has put in the years so far
abbrev pub invariant-loop-year : goal.invariant-loop-year
invariant-loop-year g l = Stands l.queue.object (count_by is_leap (take l.year-index l.years)) 0 l.seat

-- and then all years, and nothing but Stops
abbrev pub invariant-loop : goal.invariant-loop
invariant-loop g l = Stands l.queue.object (count_by is_leap l.years) 0 l.seat
