use Rattle.std.proofs.Common.{subst, sym}
use Rattle.std.proofs.lemmas.List.Elements.{All-push}
use Rattle.std.specs.List.{All}
use Rattle.fak_queue.specs.BundleCalls.{IsIdleBundle}
use Rattle.fak_queue.specs.Queues.{IsIdleSeat}
use Rattle.fak_queue_tests.specs.declared.burst_storms.Worker.{Worker}
use Rattle.fak_queue_tests.proofs.burst_storms.workers_of.Goals as goal

pub loop-preserved : goal.loop-preserved
loop-preserved g c =
    let P : Worker → Type 0 = λ (w : Worker). IsIdleBundle c.args.queue.now.object w.bundle × IsIdleSeat c.args.queue.now.object w.seat in
    (c.take-seat.ensures.others, subst (All P) (sym c.add.ensures) (All-push P c.loop.workers.items (record { bundle = c.bundle_of-bundle.result; seat = c.take-seat.result }) c.loop.invariant.1 (c.bundle_of-bundle.ensures.bundle, c.take-seat.ensures.seat)))
