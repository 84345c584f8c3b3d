use Rattle.std.proofs.Common.{ap}
use Rattle.fak_queue.proofs.Sums.{deleted_at_last}
use Rattle.example_workers.specs.Counts.{leaps}
use Rattle.example_workers.proofs.calls.take.Goals as goal

pub returns-in-Ok-clause-adds : goal.returns-in-Ok-clause-adds
returns-in-Ok-clause-adds g c = deleted_at_last leaps c.in-Ok.ensures.call

pub returns-in-Ok-clause-stint : goal.returns-in-Ok-clause-stint
returns-in-Ok-clause-stint g c = ap (λ s. s.stint) c.in-Ok.ensures.call.tries.makes.same_seat
