use Rattle.fak_count.proofs.Common.{rules}
use Rattle.fak_count.proofs.credits.port.CreditPort.debit.Goals as goal

pub returns-clause-call : goal.returns-clause-call
returns-clause-call c = search rules
