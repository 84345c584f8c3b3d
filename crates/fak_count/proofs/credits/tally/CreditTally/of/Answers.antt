use Rattle.fak_count.proofs.Common.{every_history}
use Rattle.fak_count.proofs.credits.tally.CreditTally.of.Goals as goal

pub returns-clause-lawful : goal.returns-clause-lawful
returns-clause-lawful c = every_history _
