use Rattle.bench_objects.proofs.Dealing.{dealt_are_idle}
use Rattle.bench_objects.proofs.tail_case.TailCase.by_seats.Goals as goal

pub seat_attempts-requires : goal.seat_attempts-requires
seat_attempts-requires g c = dealt_are_idle c.in-Ok.queue.object _ _ c.in-Ok.seats.items c.in-Ok.ensures.3
