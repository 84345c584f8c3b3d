use Rattle.std.proofs.Common.{vec_len}
use Rattle.fak_queue.specs.Queues.{IsIdleSeat}
use Rattle.fak_queue_tests.proofs.storms.insert_all.Given as goal

-- the seat is between two calls on the queue
abbrev pub invariant-loop-item : goal.invariant-loop-item
invariant-loop-item g l = IsIdleSeat l.queue.object l.seat

abbrev pub decreases-loop-item : goal.decreases-loop-item
decreases-loop-item g l = vec_len l.items
