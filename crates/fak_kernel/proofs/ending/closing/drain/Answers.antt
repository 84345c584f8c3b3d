use Rattle.fak_kernel.proofs.Closing.{drained_next}
use Rattle.fak_kernel.proofs.ending.closing.drain.Goals as goal

pub loop-sleeper-preserved : goal.loop-sleeper-preserved
loop-sleeper-preserved g c =
    let was = c.loop-sleeper.invariant in
    let rested = c.rest.ensures in
    let next = drained_next {script = g.K.Run.script} _ _ _ c.in-Some.ensures rested.same rested.fits rested.stands c.in_ok-push.ensures.items was.added was.sleepers in
    record { added = next.0; sleepers = next.1 }
