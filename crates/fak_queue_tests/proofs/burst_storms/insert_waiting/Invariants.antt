use Rattle.fak_queue.specs.BundleCalls.{IsIdleBundle}
use Rattle.fak_queue.specs.Queues.{IsIdleSeat}
use Rattle.fak_queue_tests.proofs.burst_storms.insert_waiting.Given as goal

-- the bundle and the seat belong to the queue, and are idle
abbrev pub invariant-loop : goal.invariant-loop
invariant-loop g l = IsIdleBundle l.queue.object l.worker.bundle × IsIdleSeat l.queue.object l.worker.seat
