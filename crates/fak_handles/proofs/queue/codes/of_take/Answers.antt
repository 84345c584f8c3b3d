use Rattle.std.proofs.Common.{rules}
use Rattle.fak_handles.proofs.queue.codes.of_take.Goals as goal

pub returns-in-Some-Some-clause-item : goal.returns-in-Some-Some-clause-item
returns-in-Some-Some-clause-item c = search rules
