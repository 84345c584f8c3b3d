use Rattle.fak_text.proofs.Common.{rules}
use Rattle.fak_text.proofs.reading.values.value_of_key.Goals as goal

pub returns-in-None : goal.returns-in-None
returns-in-None c = search rules
