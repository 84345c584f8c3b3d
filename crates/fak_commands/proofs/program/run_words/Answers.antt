use Rattle.std.proofs.Common.{rules}
use Rattle.fak_commands.proofs.program.run_words.Goals as goal

pub returns : goal.returns
returns g c = search rules
