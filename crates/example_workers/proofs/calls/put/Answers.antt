use Rattle.std.proofs.Common.{rules}
use Rattle.fak_queue.proofs.Sums.{inserted_at_last}
use Rattle.example_workers.specs.Counts.{leaps}
use Rattle.example_workers.proofs.calls.put.Goals as goal

pub returns-clause-adds : goal.returns-clause-adds
returns-clause-adds g c = search (rules, inserted_at_last leaps)
