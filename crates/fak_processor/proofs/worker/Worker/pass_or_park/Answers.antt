use Rattle.fak_processor.proofs.Gaining.{same_there}
use Rattle.fak_processor.proofs.Sleeping.{are_after, downs, downs_alone}
use Rattle.fak_processor.proofs.Spent.{spent_there}
use Rattle.fak_processor.proofs.worker.Worker.pass_or_park.Goals as goal

pub down-requires : goal.down-requires
down-requires g c =
    let fits = rw (← c.seats.view_is, ← c.objects.view_is) at c.self.invariant.0 in
    same_there _ c.objects.invariant.1 fits c.requires.at c.index_mut-seat.ensures.value c.index-semaphore.ensures

pub returns-clause-gains : goal.returns-clause-gains
returns-clause-gains g c =
    let fits = rw (← c.seats.view_is, ← c.objects.view_is) at c.self.invariant.0 in
    rw (← c.self.view_is, ← c.seats.view_is) (downs _ c.objects.invariant.1 fits c.args.at c.requires.at c.down.new.seat c.index_mut-seat.ensures.value c.index-semaphore.ensures c.in-Ok.ensures.object c.in-Ok.passed c.in-Ok.ensures.call)

pub returns-clause-alone : goal.returns-clause-alone
returns-clause-alone g c =
    let fits = rw (← c.seats.view_is, ← c.objects.view_is) at c.self.invariant.0 in
    rw (← c.self.view_is, ← c.seats.view_is) (λ alone. downs_alone _ c.objects.invariant.1 fits c.args.at c.requires.at c.down.new.seat c.index_mut-seat.ensures.value c.index-semaphore.ensures c.in-Ok.ensures.object c.requires.before alone c.in-Ok.passed c.in-Ok.ensures.call)

pub returns-in_default-clause-spent : goal.returns-in_default-clause-spent
returns-in_default-clause-spent g c =
    let fits = rw (← c.seats.view_is, ← c.objects.view_is) at c.self.invariant.0 in
    spent_there _ c.objects.invariant.1 fits c.args.at c.requires.at c.down.new.seat c.in_default.ensures.call.1

pub invariant_of-self-2 : goal.invariant_of-self-2
invariant_of-self-2 g c =
    let fits = rw (← c.seats.view_is, ← c.objects.view_is) at c.self.invariant.0 in
    (rw (← c.objects.view_is) (are_after _ c.objects.invariant.1 fits c.args.at c.requires.at c.down.new.seat c.index_mut-seat.ensures.value c.index-semaphore.ensures c.in-Ok.ensures.object), c.self.invariant.1, c.self.invariant.2, c.self.invariant.3)
