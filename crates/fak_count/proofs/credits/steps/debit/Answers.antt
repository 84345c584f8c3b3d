use Rattle.fak_count.proofs.Common.{rules}
use Rattle.fak_count.proofs.CreditSteps.{debits_allowed}
use Rattle.fak_count.proofs.credits.steps.debit.Goals as goal

pub fetch_sub-requires : goal.fetch_sub-requires
fetch_sub-requires g c = (c.requires.token.table_is.0, search (rules, c.requires.token.table_is.1), rw (← c.requires.token.table_is.2) (debits_allowed _ _ _ c.requires.token.seat.0 _ c.requires.token.seat.1 c.requires.left))
