use Rattle.std.proofs.Common.{rules}
use Rattle.fak_handles.proofs.semaphore.codes.of_park.Goals as goal

pub returns-in-Some-false : goal.returns-in-Some-false
returns-in-Some-false c = search rules
