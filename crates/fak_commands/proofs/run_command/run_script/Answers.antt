use Rattle.std.proofs.Common.{rules}
use Rattle.fak_commands.proofs.run_command.run_script.Goals as goal

pub returns-clause-gives : goal.returns-clause-gives
returns-clause-gives g c = search rules

pub returns-clause-long : goal.returns-clause-long
returns-clause-long g c = search rules
