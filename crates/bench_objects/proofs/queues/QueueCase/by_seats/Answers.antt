use Rattle.bench_objects.proofs.Dealing.{dealt_are_idle}
use Rattle.bench_objects.proofs.queues.QueueCase.by_seats.Goals as goal

pub seat_handles-requires : goal.seat_handles-requires
seat_handles-requires g c = dealt_are_idle c.in-Ok.queue.object _ _ c.in-Ok.seats.items c.in-Ok.ensures.3
