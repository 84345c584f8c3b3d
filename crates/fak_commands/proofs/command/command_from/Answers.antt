use Rattle.std.proofs.Common.{rules}
use Rattle.fak_commands.proofs.command.command_from.Goals as goal

pub returns-in-Some-run-default : goal.returns-in-Some-run-default
returns-in-Some-run-default c = search rules

pub returns-in-Some-replay-default : goal.returns-in-Some-replay-default
returns-in-Some-replay-default c = search rules
