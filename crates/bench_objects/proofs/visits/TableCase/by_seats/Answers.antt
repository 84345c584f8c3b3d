use Rattle.bench_objects.proofs.Dealing.{dealt_are_free}
use Rattle.bench_objects.proofs.visits.TableCase.by_seats.Goals as goal

pub seat_handles-requires-clause-idle : goal.seat_handles-requires-clause-idle
seat_handles-requires-clause-idle g c = dealt_are_free c.in-Ok.table.object _ _ c.in-Ok.seats.items c.in-Ok.ensures.3
