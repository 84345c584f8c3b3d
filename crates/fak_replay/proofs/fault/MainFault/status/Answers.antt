use Rattle.std.proofs.Common.{rules}
use Rattle.fak_replay.proofs.fault.MainFault.status.Goals as goal

pub returns-in_default : goal.returns-in_default
returns-in_default c = search rules
