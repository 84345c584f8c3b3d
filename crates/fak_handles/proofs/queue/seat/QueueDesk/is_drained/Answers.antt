use Rattle.std.proofs.Common.{rules}
use Rattle.fak_handles.proofs.queue.seat.QueueDesk.is_drained.Goals as goal

pub returns-clause-drained : goal.returns-clause-drained
returns-clause-drained c = search rules
