use Rattle.std.specs.Prelude.{◌≡◌}
use Rattle.std.specs.VecDeque.{deque_capacity, deque_len}
use Rattle.fak_queue.proofs.BundleRetries.{IsRetryingBurstOut}
use Rattle.fak_queue.proofs.queue.Queue.wait_delete_burst.Given as goal

-- so far each try was refused Empty, and no item came out
abbrev pub invariant-loop : goal.invariant-loop
invariant-loop g l = IsRetryingBurstOut l.self.size l.most l.self.object l.initial.out.items l.out.items l.initial.bundle l.bundle
    × (deque_capacity l.out ≡ deque_capacity l.initial.out) × (deque_len l.out ≡ deque_len l.initial.out)
