use Rattle.std.proofs.Common.{rules}
use Rattle.fak_handles.proofs.files.seat.FileDesk.try_write.Goals as goal

pub returns-in-Nothing-clause-call : goal.returns-in-Nothing-clause-call
returns-in-Nothing-clause-call c = search rules
