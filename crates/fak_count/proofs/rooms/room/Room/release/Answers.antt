use Rattle.fak_count.proofs.Common.{rules, [], ◌∷◌, ◌-◌, refl, ◌∙◌, w64, arith, to_z-of_z, Release, Released}
use Rattle.fak_count.proofs.RoomCalls.{did_release, at_room, own_token, held_old, seat_after, held_after, makes_call}
use Rattle.fak_count.proofs.rooms.room.Room.release.Goals as goal

pub invariant_of-seat : goal.invariant_of-seat
invariant_of-seat c =
    let at = at_room c.self.inside.table.shared.key c.seat.inside.left c.seat.invariant c.seat.view_is c.self.view_is c.requires.object in
    let held = held_old at in
    let enough = c.requires.holds in
    seat_after at (did_release (own_token at) c.release-found.ensures.told.told) (Released c.args.d ∷ []) refl (c.seat.inside.held - c.args.d) (omega (arith, held, enough))

pub returns-clause-call : goal.returns-clause-call
returns-clause-call c =
    let at = at_room c.self.inside.table.shared.key c.seat.inside.left c.seat.invariant c.seat.view_is c.self.view_is c.requires.object in
    makes_call at (Release c.args.d) (did_release (own_token at) c.release-found.ensures.told.told) c.release-found.ensures.told.same c.seat.inside.left (omega arith) (to_z-of_z {w = w64} (search rules) ∙ c.count_of.ensures.difference)

pub returns-clause-held : goal.returns-clause-held
returns-clause-held c =
    let at = at_room c.self.inside.table.shared.key c.seat.inside.left c.seat.invariant c.seat.view_is c.self.view_is c.requires.object in
    let e = held_after at (did_release (own_token at) c.release-found.ensures.told.told) c.release-found.new.token.table_id c.seat.inside.left in
    omega (arith, e)
