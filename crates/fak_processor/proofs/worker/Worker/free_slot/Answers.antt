use Rattle.fak_processor.proofs.Starting.{begins_filled}
use Rattle.fak_processor.proofs.worker.Worker.free_slot.Goals as goal

pub returns-clause-general : goal.returns-clause-general
returns-clause-general g c =
    rw (← c.self.view_is, ← c.seats.view_is) (begins_filled _ c.objects.invariant.1 c.in_ok-put.ensures.grows)
