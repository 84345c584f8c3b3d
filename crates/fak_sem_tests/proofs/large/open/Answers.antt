use Rattle.fak_sem_tests.proofs.Dealing.{dealt_are_of}
use Rattle.fak_sem_tests.proofs.large.open.Goals as goal

pub returns : goal.returns
returns g c = dealt_are_of c.in-Ok.semaphore.object _ _ c.in-Ok.seats.items c.in-Ok.ensures.5
