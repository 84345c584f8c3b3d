use Rattle.fak_sem.proofs.Common.{◌≡◌, ◌-◌, fresh_seats, fresh_sem_seats}
use Rattle.fak_sem.proofs.semaphore.Semaphore.paired.Given as goal

-- the seats below this name are paired, and the others are still to come
abbrev pub invariant-loop-name : goal.invariant-loop-name
invariant-loop-name g l =
    (l.credits.rest.items ≡ fresh_seats l.self.object.credit l.limits.stint l._name (l.limits.seats - l._name))
    × (l.credits.rest.len ≡ l.limits.seats - l._name)
    × (l.queues.rest.items ≡ fresh_seats l.self.object.queue l.limits.stint l._name (l.limits.seats - l._name))
    × (l.queues.rest.len ≡ l.limits.seats - l._name)
    × (l.paired.items ≡ fresh_sem_seats l.self.object l.limits.stint 0 l._name)
