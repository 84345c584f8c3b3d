use Rattle.std.proofs.Common.{subst, sym}
use Rattle.std.proofs.lemmas.List.Elements.{All-push}
use Rattle.std.specs.List.{All}
use Rattle.fak_queue.specs.Queues.{IsIdleSeat}
use Rattle.fak_queue_tests.proofs.bundle_steps.bundle_of.Goals as goal

pub loop-preserved : goal.loop-preserved
loop-preserved g c = (c.take.ensures.others, subst (All (IsIdleSeat c.args.queue.now.object)) (sym c.add.ensures) (All-push (IsIdleSeat c.args.queue.now.object) c.loop.own.items c.take.result c.loop.invariant.1 c.take.ensures.seat))
