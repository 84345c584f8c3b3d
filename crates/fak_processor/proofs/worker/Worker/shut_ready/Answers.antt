use Rattle.fak_processor.proofs.Moving.{gains_ready}
use Rattle.fak_processor.proofs.Seated.{are_with_ready}
use Rattle.fak_processor.proofs.worker.Worker.shut_ready.Goals as goal

pub returns-clause-gains : goal.returns-clause-gains
returns-clause-gains g c =
    rw (← c.self.view_is, ← c.seats.view_is) (gains_ready _ _ c.objects.invariant.1.ready c.shut.ensures.grows)

pub invariant_of-self : goal.invariant_of-self
invariant_of-self g c =
    let fits = rw (← c.seats.view_is, ← c.objects.view_is) at c.self.invariant.0 in
    (rw (← c.objects.view_is) (are_with_ready fits c.shut.ensures.seat), c.self.invariant.1, c.self.invariant.2, c.self.invariant.3)
