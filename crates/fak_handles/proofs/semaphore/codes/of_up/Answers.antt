use Rattle.std.proofs.Common.{rules}
use Rattle.fak_handles.proofs.semaphore.codes.of_up.Goals as goal

pub returns-in-Some-Ok-true : goal.returns-in-Some-Ok-true
returns-in-Some-Ok-true c = search rules
