use Rattle.fak_queue.proofs.Common.{◌≡◌, kinds_not_in, IsFull}
use Rattle.fak_queue.proofs.AfterRefusals.{IsRetrying}
use Rattle.fak_queue.proofs.queue.Queue.wait_insert.Given as goal

-- so far each try was refused Full, and the item came back
abbrev pub invariant-loop : goal.invariant-loop
invariant-loop g l = IsRetrying kinds_not_in IsFull l.self.size l.self.object l.initial.seat l.seat × (l.waiting ≡ l.fn.item)
