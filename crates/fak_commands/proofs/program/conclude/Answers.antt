use Rattle.std.proofs.Common.{rules}
use Rattle.fak_commands.proofs.program.conclude.Goals as goal

pub returns-in-Ok-clause-silent : goal.returns-in-Ok-clause-silent
returns-in-Ok-clause-silent g c = search rules
