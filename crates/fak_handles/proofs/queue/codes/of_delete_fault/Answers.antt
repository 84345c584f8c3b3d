use Rattle.std.proofs.Common.{rules}
use Rattle.fak_handles.proofs.queue.codes.of_delete_fault.Goals as goal

pub returns-in-Worn : goal.returns-in-Worn
returns-in-Worn c = search rules
