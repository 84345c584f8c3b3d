use Rattle.fak_count.proofs.Common.{whole_mine, whole_set, every_history}
use Rattle.fak_count.specs.Credits.{seat_of}
use Rattle.fak_count.proofs.CreditCalls.{always_at_rest}
use Rattle.fak_count.proofs.credits.tally.CreditTally.is_whole.Goals as goal

pub returns-clause-whole : goal.returns-clause-whole
returns-clause-whole c = rw (← c.self.view_is) (whole_set c.self.inside.names _ c.self.inside.seats c.has_all.result c.self.invariant.1 c.has_all.ensures)

pub returns-clause-mine : goal.returns-clause-mine
returns-clause-mine c = rw (← c.self.view_is) (λ h. whole_mine seat_of c.self.inside.seats _ _ ((whole_set c.self.inside.names _ c.self.inside.seats c.has_all.result c.self.invariant.1 c.has_all.ensures).0 h) c.self.invariant.0.named)

pub returns-clause-lawful : goal.returns-clause-lawful
returns-clause-lawful c = every_history c.args.self.now.seen

pub returns-clause-rest : goal.returns-clause-rest
returns-clause-rest c = always_at_rest c.args.self.now.seen
