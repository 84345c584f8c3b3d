use Rattle.fak_sem.proofs.Common.{◌≡◌}
use Rattle.fak_sem.proofs.WholeInsertions.{MayRetry}
use Rattle.fak_sem.proofs.retries.insert_at_last.Given as goal

-- so far each try was refused, and the item came back
abbrev pub invariant-loop : goal.invariant-loop
invariant-loop g l = MayRetry l.queue.size l.queue.object l.initial.seat l.seat × (l.waiting ≡ l.fn.item)
