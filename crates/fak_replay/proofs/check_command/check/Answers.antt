use Rattle.std.proofs.Common.{rules}
use Rattle.fak_replay.proofs.check_command.check.Goals as goal

pub returns-in-None-clause-gives : goal.returns-in-None-clause-gives
returns-in-None-clause-gives c = search rules
