use Rattle.std.proofs.Common.{rules}
use Rattle.fak_replay.proofs.replay_command.new_machine.Goals as goal

pub returns-clause-ok : goal.returns-clause-ok
returns-clause-ok c = search rules
