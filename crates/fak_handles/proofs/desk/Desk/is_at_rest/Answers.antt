use Rattle.std.proofs.Common.{rules}
use Rattle.fak_handles.proofs.desk.Desk.is_at_rest.Goals as goal

pub returns-in-Files : goal.returns-in-Files
returns-in-Files c = search rules

pub returns-in-Queue : goal.returns-in-Queue
returns-in-Queue c = search rules
