use Rattle.std.proofs.Common.{rules}
use Rattle.fak_handles.proofs.queue.codes.of_insert_fault.Goals as goal

pub returns-in-Closed : goal.returns-in-Closed
returns-in-Closed c = search rules
