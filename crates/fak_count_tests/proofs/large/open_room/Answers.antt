use Rattle.fak_count_tests.proofs.Dealing.{dealt_are_of}
use Rattle.fak_count_tests.proofs.large.open_room.Goals as goal

pub returns : goal.returns
returns g c = dealt_are_of c.in-Ok.room.object _ _ c.in-Ok.seats.items c.in-Ok.ensures.3
