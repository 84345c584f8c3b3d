use Rattle.std.proofs.Common.{Some}
use Rattle.std.proofs.lemmas.List.Elements.{All-pop}
use Rattle.fak_queue.specs.Queues.{IsIdleSeat}
use Rattle.soak.proofs.seats.joined.Goals as goal

pub loop-seat-preserved : goal.loop-seat-preserved
loop-seat-preserved g c = (
  (All-pop (IsIdleSeat c.args.queue.now.object) _ _ (Some c.in-Some-pop.seat) c.in-Some-pop.ensures.items c.loop-seat.invariant.0).0,
  c.join-tally.ensures.object,
)
