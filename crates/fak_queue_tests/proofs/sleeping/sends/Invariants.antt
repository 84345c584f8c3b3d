use Rattle.fak_queue.specs.Queues.{IsIdleSeat}
use Rattle.fak_queue_tests.proofs.sleeping.sends.Given as goal

-- the seat is between two calls on the queue
abbrev pub invariant-loop : goal.invariant-loop
invariant-loop g l = IsIdleSeat l.queue.object l.seat.seat
