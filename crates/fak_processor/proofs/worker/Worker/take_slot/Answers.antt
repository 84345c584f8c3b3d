use Rattle.std.proofs.lemmas.Result.{IfOk-weaker}
use Rattle.fak_processor.proofs.Moving.{gains_taken}
use Rattle.fak_processor.proofs.Seated.{are_with_free}
use Rattle.fak_processor.proofs.worker.Worker.take_slot.Goals as goal

pub returns-clause-gains : goal.returns-clause-gains
returns-clause-gains g c =
    rw (← c.self.view_is, ← c.seats.view_is) (IfOk-weaker c.take.result _ _ (λ slot grows. gains_taken g.K.Run.script _ c.take.new.seat slot c.objects.invariant.1.free grows) c.take.ensures.grows)

pub invariant_of-self : goal.invariant_of-self
invariant_of-self g c =
    let fits = rw (← c.seats.view_is, ← c.objects.view_is) at c.self.invariant.0 in
    (rw (← c.objects.view_is) (are_with_free fits c.take.ensures.seat), c.self.invariant.1, c.self.invariant.2, c.self.invariant.3)
