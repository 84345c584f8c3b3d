use Rattle.std.specs.List.{AllWithin}
use Rattle.fak_queue.specs.Queues.{IsIdleSeat}
use Rattle.fak_queue_tests.proofs.bundling.assert_all_idle.Given as goal

-- the seats before this one are idle
abbrev pub invariant-loop-seat : goal.invariant-loop-seat
invariant-loop-seat g l = AllWithin (IsIdleSeat l.queue.object) l.seats 0 l.seat-index
