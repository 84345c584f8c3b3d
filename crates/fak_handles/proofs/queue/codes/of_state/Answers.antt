use Rattle.std.proofs.Common.{rules}
use Rattle.fak_handles.proofs.queue.codes.of_state.Goals as goal

pub returns-in-Inserting-clause-state : goal.returns-in-Inserting-clause-state
returns-in-Inserting-clause-state c = search rules
