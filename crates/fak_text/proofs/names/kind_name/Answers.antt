use Rattle.fak_text.proofs.Common.{rules}
use Rattle.fak_text.proofs.names.kind_name.Goals as goal

pub returns-in-Closed : goal.returns-in-Closed
returns-in-Closed c = search rules
