use Rattle.fak_count.proofs.Common.{rules}
use Rattle.fak_count.proofs.credits.port.CreditPort.new.Goals as goal

pub returns-clause-seat : goal.returns-clause-seat
returns-clause-seat c = search rules
