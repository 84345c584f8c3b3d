use Rattle.fak_text.proofs.Common.{rules}
use Rattle.fak_text.specs.ScriptText.{stint_of_key}
use Rattle.fak_text.proofs.reading.script.stint_of_key.Goals as goal

pub returns-in-None-clause-gives : goal.returns-in-None-clause-gives
unfolding stint_of_key
returns-in-None-clause-gives c = search rules
