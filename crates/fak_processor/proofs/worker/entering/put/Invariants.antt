use Rattle.fak_processor.proofs.Common.{◌≡◌, IsOnlySeat, Keeps, GrowsIdle}
use Rattle.fak_queue.specs.Queues.{IsIdleSeat}
use Rattle.fak_processor.proofs.worker.entering.put.Given as goal

-- so far the queue was shut
abbrev pub invariant-loop : goal.invariant-loop
invariant-loop g l =
    ((goal.iterator-loop g).can_next l.iterator' × (goal.iterator-loop g).is_finite l.iterator')
    × IsIdleSeat l.queue.object l.seat × (l.waiting ≡ l.fn.item)
    × GrowsIdle l.queue.size l.initial.seat l.seat
    × (IsOnlySeat l.initial.seat → Keeps l.initial.seat l.seat)
