use Rattle.fak_processor.proofs.Common.{ap}
use Rattle.fak_run.specs.ListScheduler as lists
use Rattle.fak_processor.proofs.Acting.{moves_taken, moves_empty}
use Rattle.fak_processor.proofs.worker.Worker.take_front.Goals as goal

pub returns-in-Ok-None-clause-general : goal.returns-in-Ok-None-clause-general
returns-in-Ok-None-clause-general g c =
    let e = rw c.in-Ok-None.field-0-is at c.in-Ok-None.ensures.grows in
    rw (← c.self.view_is, ← c.seats.view_is) (moves_empty _ c.objects.invariant.1 e)

pub returns-in-Ok-Some-clause-general : goal.returns-in-Ok-Some-clause-general
returns-in-Ok-Some-clause-general g c =
    let e = rw c.in-Ok-Some.field-0-is at c.in-Ok-Some.ensures.grows in
    rw (← c.self.view_is, ← c.seats.view_is) (moves_taken _ c.objects.invariant.1 (ap (λ (t : lists.Turn). t.process) c.new.ensures) e)
