use Rattle.std.proofs.Common.{subst, sym}
use Rattle.std.proofs.lemmas.List.Elements.{All-take}
use Rattle.fak_queue.specs.Queues.{IsIdleSeat}
use Rattle.soak.specs.Seats.{AreIdleSeats}
use Rattle.soak.proofs.bursts.threads.Goals as goal

pub loop-lane-preserved : goal.loop-lane-preserved
loop-lane-preserved c = subst (AreIdleSeats c.args.queue.now.object) (sym c.in_ok-own.ensures.items) (All-take (IsIdleSeat c.args.queue.now.object) _ _ c.loop-lane.invariant)
