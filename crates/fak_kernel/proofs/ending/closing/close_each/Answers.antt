use Rattle.fak_kernel.proofs.Closing.{closing_first, closing_head, closing_next, closing_last, settled_there}
use Rattle.fak_kernel.proofs.ending.closing.close_each.Goals as goal

pub loop-semaphore-init : goal.loop-semaphore-init
loop-semaphore-init g c =
    let first = closing_first {script = g.K.Run.script} (c.into_iter-semaphore-iterator.ensures.into_iter_gives).0 c.into_iter-rest.ensures.rest c.new-asleep.ensures.items c.requires.tallies c.requires.whole in
    record { ids = first.ids_are; closing = first; last = closing_last first }

pub close-requires-clause-whole : goal.close-requires-clause-whole
close-requires-clause-whole g c = (closing_head c.in-Some.ensures.steps.0 c.in-Some-next.ensures.cases.0 c.loop-semaphore.invariant.closing).1

pub close-requires-clause-object : goal.close-requires-clause-object
close-requires-clause-object g c = (closing_head c.in-Some.ensures.steps.0 c.in-Some-next.ensures.cases.0 c.loop-semaphore.invariant.closing).0

pub loop-semaphore-preserved : goal.loop-semaphore-preserved
loop-semaphore-preserved g c =
    let closing = c.loop-semaphore.invariant.closing in
    let same = (closing_head c.in-Some.ensures.steps.0 c.in-Some-next.ensures.cases.0 closing).0 in
    let settled = settled_there c.in-Some-next.tally same c.close.ensures.settled in
    let next = closing_next c.in-Some.ensures.steps.0 c.in-Some-next.ensures.cases.0 closing c.close.ensures.rest settled c.in_ok-drain.ensures.sleepers c.in_ok-drain.ensures.added in
    record { ids = next.ids_are; closing = next; last = closing_last next }
