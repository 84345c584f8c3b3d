use Rattle.fak_handles.proofs.Common.{◌≡◌, ◌-◌, length, AreSeatedBelow}
use Rattle.fak_model.proofs.Common.{arc_value}
use Rattle.fak_sem.specs.Semaphores.{fresh_sem_seats}
use Rattle.fak_handles.specs.Openings.{IsFreshSem}
use Rattle.fak_handles.proofs.semaphore.opening.seat_semaphore.Given as goal

-- the handles below this one have seats, and the others' seats are to come
abbrev pub invariant-loop-i : goal.invariant-loop-i
invariant-loop-i l =
    (length l.handles ≡ l.i-end) × AreSeatedBelow (IsFreshSem (arc_value l.semaphore) l.stint) l.i l.handles
    × (l.rest.rest.items ≡ fresh_sem_seats (arc_value l.semaphore).object l.stint l.i (l.i-end - l.i))
