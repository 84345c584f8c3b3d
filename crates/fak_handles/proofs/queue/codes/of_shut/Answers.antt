use Rattle.std.proofs.Common.{rules}
use Rattle.fak_handles.proofs.queue.codes.of_shut.Goals as goal

pub returns-in-Some-clause-open : goal.returns-in-Some-clause-open
returns-in-Some-clause-open c = search rules
