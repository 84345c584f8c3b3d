use Rattle.std.specs.Prelude.{◌≡◌}
use Rattle.fak_queue_tests.proofs.sleeping.seats_are_dealt_in_order.Given as goal

-- the seats belong to the queue
abbrev pub invariant-loop-number : goal.invariant-loop-number
invariant-loop-number g l = l.undealt.object ≡ l.queue.object
