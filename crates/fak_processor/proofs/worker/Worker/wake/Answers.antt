use Rattle.fak_processor.proofs.Gaining.{same_there}
use Rattle.fak_processor.proofs.Sleeping.{are_after, raises, raises_alone, wakes, wakes_alone}
use Rattle.fak_processor.proofs.Spent.{spent_there}
use Rattle.fak_processor.proofs.worker.Worker.wake.Goals as goal

pub up-requires : goal.up-requires
up-requires g c =
    let fits = rw (← c.seats.view_is, ← c.objects.view_is) at c.self.invariant.0 in
    same_there _ c.objects.invariant.1 fits c.requires.at c.index_mut-seat.ensures.value c.index-semaphore.ensures

pub returns-in-Ok-None-clause-gains : goal.returns-in-Ok-None-clause-gains
returns-in-Ok-None-clause-gains g c =
    let fits = rw (← c.seats.view_is, ← c.objects.view_is) at c.self.invariant.0 in
    let up = rw c.in-Ok-None.field-0-is at c.in-Ok-None.ensures.call in
    rw (← c.self.view_is, ← c.seats.view_is) (raises _ c.objects.invariant.1 fits c.args.at c.requires.at c.up.new.seat c.index_mut-seat.ensures.value c.index-semaphore.ensures c.in-Ok-None.ensures.object up)

pub returns-in-Ok-Some-clause-gains : goal.returns-in-Ok-Some-clause-gains
returns-in-Ok-Some-clause-gains g c =
    let fits = rw (← c.seats.view_is, ← c.objects.view_is) at c.self.invariant.0 in
    let up = rw c.in-Ok-Some.field-0-is at c.in-Ok-Some.ensures.call in
    rw (← c.self.view_is, ← c.seats.view_is) (wakes _ c.objects.invariant.1 fits c.args.at c.requires.at c.up.new.seat c.index_mut-seat.ensures.value c.index-semaphore.ensures c.in-Ok-Some.ensures.object up c.rouse.ensures.woken c.rouse.ensures.fits)

pub returns-in-Ok-None-clause-alone : goal.returns-in-Ok-None-clause-alone
returns-in-Ok-None-clause-alone g c =
    let fits = rw (← c.seats.view_is, ← c.objects.view_is) at c.self.invariant.0 in
    let up = rw c.in-Ok-None.field-0-is at c.in-Ok-None.ensures.call in
    rw (← c.self.view_is, ← c.seats.view_is) (λ alone. raises_alone _ c.objects.invariant.1 fits c.args.at c.requires.at c.up.new.seat c.index_mut-seat.ensures.value c.index-semaphore.ensures c.in-Ok-None.ensures.object alone up)

pub returns-in-Ok-Some-clause-alone : goal.returns-in-Ok-Some-clause-alone
returns-in-Ok-Some-clause-alone g c =
    let fits = rw (← c.seats.view_is, ← c.objects.view_is) at c.self.invariant.0 in
    let up = rw c.in-Ok-Some.field-0-is at c.in-Ok-Some.ensures.call in
    rw (← c.self.view_is, ← c.seats.view_is) (λ alone. wakes_alone _ c.objects.invariant.1 fits c.args.at c.requires.at c.up.new.seat c.index_mut-seat.ensures.value c.index-semaphore.ensures c.in-Ok-Some.ensures.object alone up c.rouse.ensures.done)

pub returns-in-Err-clause-spent : goal.returns-in-Err-clause-spent
returns-in-Err-clause-spent g c =
    let fits = rw (← c.seats.view_is, ← c.objects.view_is) at c.self.invariant.0 in
    spent_there _ c.objects.invariant.1 fits c.args.at c.requires.at c.up.new.seat c.in-Err.ensures.call

pub invariant_of-self : goal.invariant_of-self
invariant_of-self g c =
    let fits = rw (← c.seats.view_is, ← c.objects.view_is) at c.self.invariant.0 in
    (rw (← c.objects.view_is) (are_after _ c.objects.invariant.1 fits c.args.at c.requires.at c.up.new.seat c.index_mut-seat.ensures.value c.index-semaphore.ensures c.in-Err.ensures.object), c.self.invariant.1, c.self.invariant.2, c.self.invariant.3)

pub invariant_of-self-in-Ok-None : goal.invariant_of-self-in-Ok-None
invariant_of-self-in-Ok-None g c =
    let fits = rw (← c.seats.view_is, ← c.objects.view_is) at c.self.invariant.0 in
    (rw (← c.objects.view_is) (are_after _ c.objects.invariant.1 fits c.args.at c.requires.at c.up.new.seat c.index_mut-seat.ensures.value c.index-semaphore.ensures c.in-Ok-None.ensures.object), c.self.invariant.1, c.self.invariant.2, c.self.invariant.3)

pub invariant_of-self-in-Ok-Some : goal.invariant_of-self-in-Ok-Some
invariant_of-self-in-Ok-Some g c =
    let fits = rw (← c.seats.view_is, ← c.objects.view_is) at c.self.invariant.0 in
    (rw (← c.objects.view_is) (are_after _ c.objects.invariant.1 fits c.args.at c.requires.at c.up.new.seat c.index_mut-seat.ensures.value c.index-semaphore.ensures c.in-Ok-Some.ensures.object), c.self.invariant.1, c.self.invariant.2, c.self.invariant.3)
