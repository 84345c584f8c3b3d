use Rattle.fak_queue.specs.Queues.{IsIdleSeat}
use Rattle.soak.proofs.queues.put_all.Given as goal

-- the seat is between two calls on the queue
abbrev pub invariant-loop-number : goal.invariant-loop-number
invariant-loop-number g l = IsIdleSeat l.queue.object l.seat
