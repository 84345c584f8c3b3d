use Rattle.fak_count.proofs.Common.{rules}
use Rattle.fak_count.proofs.credits.port.CreditPort.left.Goals as goal

pub returns : goal.returns
returns c = search rules
