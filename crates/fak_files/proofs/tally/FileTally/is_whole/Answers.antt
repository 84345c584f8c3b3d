use Rattle.fak_model.specs.File.{seat_of, file_rules}
use Rattle.fak_files.proofs.Common.{rest_whole, whole_set, whole_mine}
use Rattle.fak_files.proofs.tally.FileTally.is_whole.Goals as goal

pub returns-clause-whole : goal.returns-clause-whole
returns-clause-whole c = rw (← c.self.view_is) (whole_set c.self.inside.names _ c.self.inside.seats c.has_all.result c.self.invariant.1 c.has_all.ensures)

pub returns-clause-mine : goal.returns-clause-mine
returns-clause-mine c = rw (← c.self.view_is) (λ h. whole_mine seat_of c.self.inside.seats _ _ ((whole_set c.self.inside.names _ c.self.inside.seats c.has_all.result c.self.invariant.1 c.has_all.ensures).0 h) c.self.invariant.0.named)

pub returns-clause-rest : goal.returns-clause-rest
returns-clause-rest c = rw (← c.self.view_is) (λ h.
    let whole = (whole_set c.self.inside.names _ c.self.inside.seats c.has_all.result c.self.invariant.1 c.has_all.ensures).0 h in
    rest_whole (file_rules c.self.inside.seats) c.self.inside.seats _ _ c.self.invariant.0.named c.self.invariant.2.rest whole)
