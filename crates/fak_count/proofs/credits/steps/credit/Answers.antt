use Rattle.fak_count.proofs.Common.{rules}
use Rattle.fak_count.proofs.CreditSteps.{credits_allowed}
use Rattle.fak_count.proofs.credits.steps.credit.Goals as goal

pub fetch_add-requires : goal.fetch_add-requires
fetch_add-requires g c = (c.requires.token.table_is.0, search (rules, c.requires.token.table_is.1), rw (← c.requires.token.table_is.2) (credits_allowed _ _ _ c.requires.token.seat.0 _ c.requires.token.seat.1 c.requires.left))
