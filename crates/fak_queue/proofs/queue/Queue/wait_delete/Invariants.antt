use Rattle.fak_queue.proofs.Common.{kinds_not_out}
use Rattle.fak_queue.proofs.AfterRefusals.{IsRetrying}
use Rattle.fak_queue.proofs.queue.Queue.wait_delete.Given as goal

-- so far each try was refused Empty
abbrev pub invariant-loop : goal.invariant-loop
invariant-loop g l = IsRetrying kinds_not_out (λ r. Unit {0}) l.self.size l.self.object l.initial.seat l.seat
