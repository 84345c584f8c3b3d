use Rattle.std.specs.Prelude.{◌≡◌}
use Rattle.std.specs.VecDeque.{deque_capacity}
use Rattle.fak_queue.proofs.BundleRetries.{IsRetryingBurst}
use Rattle.fak_queue.proofs.queue.Queue.wait_insert_burst.Given as goal

-- so far each try was refused Full, and all items stay
abbrev pub invariant-loop : goal.invariant-loop
invariant-loop g l = IsRetryingBurst l.self.size l.self.object l.initial.items.items l.items.items l.initial.bundle l.bundle
    × (deque_capacity l.items ≡ deque_capacity l.initial.items)
