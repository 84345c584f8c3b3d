use Rattle.std.specs.List.{All}
use Rattle.std.proofs.Common.{sym, subst}
use Rattle.std.proofs.lemmas.List.Elements.{All-take}
use Rattle.fak_queue.specs.Queues.{IsIdleSeat}
use Rattle.bench_objects.proofs.queues.seat_handles.Goals as goal

pub loop-seat-preserved : goal.loop-seat-preserved
loop-seat-preserved g c = subst (All (IsIdleSeat c.args.queue.now.object)) (sym c.pop.ensures.rest) (All-take (IsIdleSeat c.args.queue.now.object) _ _ c.loop-seat.invariant)
