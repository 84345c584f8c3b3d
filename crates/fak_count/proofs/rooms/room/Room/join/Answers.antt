use Rattle.fak_count.proofs.Common.{rules, ℕ, [], ◌∷◌, refl, ap, subst, reverse, room_rules, object_id, SeatInfo, TallyInfo, tally_info, IsJoined, token_slots, tally_at, seat_at, may_join, token_joined, set_joined, call_joined, room_object, RoomInfo, IsSettled, RoomMark}
use Rattle.fak_count.proofs.RoomCalls.{settled_joined}
use Rattle.fak_count.proofs.rooms.room.Room.join.Goals as goal

pub join_seat-requires : goal.join_seat-requires
join_seat-requires c =
    let o = room_object c.self.inside.table.shared.key in
    let object = ap (λ (x : RoomInfo). x.object) c.self.view_is in (
      tally_at o c.tally.invariant.0 c.seat.invariant.0 c.tally.view_is c.seat.view_is object c.requires.object.0 c.requires.object.1,
      seat_at o c.tally.invariant.0 c.seat.invariant.0 c.tally.view_is c.seat.view_is object c.requires.object.0 c.requires.object.1,
      token_slots c.seat.invariant.0,
      search (rules, c.self.invariant.0),
      may_join o c.tally.invariant.0 c.seat.invariant.0 c.tally.view_is c.seat.view_is object c.requires.object.0 c.requires.object.1 _ _,
    )

pub invariant_of-result : goal.invariant_of-result
invariant_of-result c =
    let o = room_object c.self.inside.table.shared.key in
    let object = ap (λ (x : RoomInfo). x.object) c.self.view_is in
    let joined = call_joined o c.tally.invariant.0 c.seat.invariant.0 c.tally.view_is c.seat.view_is object c.requires.object.0 c.requires.object.1 c.join_seat.ensures.2 c.hear.ensures.told refl in (
      token_joined o c.tally.invariant.0 c.seat.invariant.0 c.tally.view_is c.seat.view_is object c.requires.object.0 c.requires.object.1 c.join_seat.ensures.2 c.hear.ensures.told,
      set_joined o c.tally.invariant.0 c.seat.invariant.0 c.tally.view_is c.seat.view_is object c.requires.object.0 c.requires.object.1 c.join_seat.ensures.2 c.hear.ensures.told _ _ c.tally.invariant.1 c.insert.ensures,
      settled_joined c.self.inside.table.shared.key.bound joined (subst (λ (t : TallyInfo RoomMark). IsSettled t.names t.seen) c.tally.view_is c.tally.invariant.2)
          (subst (λ (s : SeatInfo RoomMark). IsSettled (s.name ∷ []) s.seen) c.seat.view_is c.seat.invariant.2),
    )

pub returns-clause-joined : goal.returns-clause-joined
returns-clause-joined c =
    let o = room_object c.self.inside.table.shared.key in
    let object = ap (λ (x : RoomInfo). x.object) c.self.view_is in
    subst (λ (b : ℕ). IsJoined (room_rules b) c.args.tally c.args.seat (tally_info (object_id c.hear.new.token.table_id c.tally.inside.seats) c.hear.new.token.me.0.names (reverse c.hear.new.token.me.0.seen))) (ap (λ (x : RoomInfo). x.bound) c.self.view_is)
    (call_joined o c.tally.invariant.0 c.seat.invariant.0 c.tally.view_is c.seat.view_is object c.requires.object.0 c.requires.object.1 c.join_seat.ensures.2 c.hear.ensures.told {now = c.hear.new.token.table_id} (search rules))
