use Rattle.soak.proofs.Dealing.{dealt_are_idle}
use Rattle.soak.proofs.seats.open.Goals as goal

pub returns : goal.returns
returns g c = dealt_are_idle c.in-Ok.queue.object _ _ c.in-Ok.seats.items c.in-Ok.ensures.3
