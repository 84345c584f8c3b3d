use Rattle.std.proofs.Common.{◌≡◌}
use Rattle.fak_queue_tests.proofs.in_turns.take_turns.Given as goal

-- the seat belongs to the queue
abbrev pub invariant-loop-row : goal.invariant-loop-row
invariant-loop-row g l = l.seat.object ≡ l.queue.object
