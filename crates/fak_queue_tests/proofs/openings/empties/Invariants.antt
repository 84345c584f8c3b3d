use Rattle.fak_queue.specs.Queues.{IsIdleSeat}
use Rattle.fak_queue_tests.proofs.openings.empties.Given as goal

-- the seat is between two calls on the queue
abbrev pub invariant-loop-wanted : goal.invariant-loop-wanted
invariant-loop-wanted g l = IsIdleSeat l.queue.object l.seat
