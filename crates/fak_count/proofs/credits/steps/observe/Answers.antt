use Rattle.fak_count.proofs.Common.{rules}
use Rattle.fak_count.proofs.CreditSteps.{observes_allowed}
use Rattle.fak_count.proofs.credits.steps.observe.Goals as goal

pub load-requires : goal.load-requires
load-requires g c = (c.requires.token.table_is.0, search (rules, c.requires.token.table_is.1), rw (← c.requires.token.table_is.2) (observes_allowed _ _ _ c.requires.token.seat.0 _ c.requires.token.seat.1 c.requires.token.stands))
