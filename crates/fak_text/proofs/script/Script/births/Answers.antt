use Rattle.fak_text.proofs.Common.{rules}
use Rattle.fak_text.proofs.script.Script.births.Goals as goal

pub returns-clause-value : goal.returns-clause-value
returns-clause-value c = search rules
