use Rattle.std.proofs.Common.{rules}
use Rattle.fak_handles.proofs.queue.codes.of_delete_once.Goals as goal

pub returns-in-Some-Ok-default-Some-clause-item : goal.returns-in-Some-Ok-default-Some-clause-item
returns-in-Some-Ok-default-Some-clause-item c = search rules
