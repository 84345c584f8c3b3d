use Rattle.fak_queue.proofs.Common.{rules}
use Rattle.fak_queue.proofs.queue.Queue.pause_by.Goals as goal

pub invariant_of-seat : goal.invariant_of-seat
invariant_of-seat g c = search rules

pub returns : goal.returns
returns g c = search rules
