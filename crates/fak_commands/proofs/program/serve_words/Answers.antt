use Rattle.std.proofs.Common.{rules}
use Rattle.fak_commands.proofs.program.serve_words.Goals as goal

pub returns-clause-ok : goal.returns-clause-ok
returns-clause-ok g c = search rules

pub returns-clause-untouched : goal.returns-clause-untouched
returns-clause-untouched g c = search rules
