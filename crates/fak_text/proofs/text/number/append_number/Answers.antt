use Rattle.fak_text.proofs.Common.{rules}
use Rattle.fak_text.proofs.text.number.append_number.Goals as goal

pub returns : goal.returns
returns g c = search rules
