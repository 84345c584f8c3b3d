use Rattle.fak_queue.specs.Queues.{IsIdleSeat}
use Rattle.fak_queue_tests.proofs.openings.fills.Given as goal

-- the seat is between two calls on the queue
abbrev pub invariant-loop-item : goal.invariant-loop-item
invariant-loop-item g l = IsIdleSeat l.queue.object l.seat
