use Rattle.soak.proofs.Dealing.{dealt_are_seats}
use Rattle.soak.proofs.semaphores.open.Goals as goal

pub returns : goal.returns
returns c = dealt_are_seats c.in-Ok.semaphore.object 1099511627776 4 c.in-Ok.seats.items c.in-Ok.ensures.5
