use Rattle.fak_queue.proofs.Common.{whole_mine, whole_set, seat_of}
use Rattle.fak_queue.proofs.Tallies.{whole_rests}
use Rattle.fak_queue.proofs.tally.Tally.is_whole.Goals as goal

pub returns-clause-whole : goal.returns-clause-whole
returns-clause-whole g c = rw (← c.self.view_is) (whole_set c.self.inside.names _ c.self.inside.seats c.has_all.result c.self.invariant.just c.has_all.ensures)

pub returns-clause-mine : goal.returns-clause-mine
returns-clause-mine g c = rw (← c.self.view_is) (λ h. whole_mine seat_of c.self.inside.seats _ _ ((whole_set c.self.inside.names _ c.self.inside.seats c.has_all.result c.self.invariant.just c.has_all.ensures).0 h) c.self.invariant.token.named)

pub returns-clause-rest : goal.returns-clause-rest
returns-clause-rest g c = rw (← c.self.view_is) (λ h. whole_rests c.self.inside.token.table_id.slots _ _ ((whole_set c.self.inside.names _ c.self.inside.seats c.has_all.result c.self.invariant.just c.has_all.ensures).0 h) c.self.invariant.token.named c.self.invariant.idle)
