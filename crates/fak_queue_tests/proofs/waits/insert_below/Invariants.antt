use Rattle.std.proofs.Common.{◌≡◌, ◌+◌}
use Rattle.fak_queue.specs.Queues.{IsIdleSeat, drawn_by}
use Rattle.fak_queue_tests.proofs.waits.insert_below.Given as goal

-- the seat is between two calls on the queue, and has drawn a ticket for each number below this one
abbrev pub invariant-loop-item : goal.invariant-loop-item
invariant-loop-item g l = IsIdleSeat l.queue.object l.seat × (drawn_by l.seat ≡ drawn_by l.initial.seat + l.item)
