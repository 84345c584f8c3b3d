use Rattle.std.proofs.Common.{rules}
use Rattle.fak_handles.proofs.semaphore.codes.of_wake.Goals as goal

pub returns-in-Some-Some-clause-item : goal.returns-in-Some-Some-clause-item
returns-in-Some-Some-clause-item c = search rules
