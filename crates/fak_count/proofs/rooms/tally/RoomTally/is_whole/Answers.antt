use Rattle.fak_count.proofs.Common.{whole_mine, whole_set, rest_whole, room_rests}
use Rattle.fak_model.specs.Room.{seat_of, room_rules}
use Rattle.fak_count.proofs.rooms.tally.RoomTally.is_whole.Goals as goal

pub returns-clause-whole : goal.returns-clause-whole
returns-clause-whole c = rw (← c.self.view_is) (whole_set c.self.inside.names _ c.self.inside.seats c.has_all.result c.self.invariant.1 c.has_all.ensures)

pub returns-clause-mine : goal.returns-clause-mine
returns-clause-mine c = rw (← c.self.view_is) (λ h. whole_mine seat_of c.self.inside.seats _ _ ((whole_set c.self.inside.names _ c.self.inside.seats c.has_all.result c.self.invariant.1 c.has_all.ensures).0 h) c.self.invariant.0.named)

pub returns-clause-rest : goal.returns-clause-rest
returns-clause-rest c = rw (← c.self.view_is) (λ h bound.
    let whole = (whole_set c.self.inside.names _ c.self.inside.seats c.has_all.result c.self.invariant.1 c.has_all.ensures).0 h in
    rest_whole (room_rules bound) c.self.inside.seats _ _ c.self.invariant.0.named c.self.invariant.2.rest whole)

pub returns-clause-counts : goal.returns-clause-counts
returns-clause-counts c = rw (← c.self.view_is) (λ h.
    let settled = c.self.invariant.2 in
    let whole = (whole_set c.self.inside.names _ c.self.inside.seats c.has_all.result c.self.invariant.1 c.has_all.ensures).0 h in
    let rest = rest_whole (room_rules settled.bound) c.self.inside.seats _ _ c.self.invariant.0.named settled.rest whole in
    room_rests settled.bound c.self.inside.seats _ settled.lawful c.self.invariant.0.named rest)
