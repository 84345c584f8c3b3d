use Rattle.std.proofs.Common.{rules}
use Rattle.fak_replay.proofs.replay_command.replay.Goals as goal

pub returns-clause-gives : goal.returns-clause-gives
returns-clause-gives c = search rules

pub returns-clause-long : goal.returns-clause-long
returns-clause-long c = search rules
