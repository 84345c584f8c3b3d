use Rattle.fak_count.proofs.Common.{rules, ◌≡◌, ◌+◌, ◌++◌, [], ◌∷◌, ap, sym, refl, not, true, is_ok, ◌∙◌, arith, reverse, deals, dealt_is, kept_is, fresh_token, fresh_next, RoomHolder, room_object, room_seat, seat_of, amount_held, Idle}
use Rattle.fak_model.specs.Calls.{object_id, seat_info}
use Rattle.fak_count.proofs.RoomSteps.{opens_room}
use Rattle.fak_count.proofs.RoomCalls.{fresh_room_seat, settled_none}
use Rattle.fak_count.proofs.rooms.room.Room.with_limits.Goals as goal

pub of_words-requires : goal.of_words-requires
of_words-requires c = opens_room _ c.args.stint (search rules) _ record { wide = refl; count_is = refl }

pub split_seat-requires : goal.split_seat-requires
split_seat-requires c = (search rules, search rules, deals (room_object c.in-Ok.table.shared.key) Idle 0 c.loop-name.name c.args.seats c.loop-name.rest.id c.loop-name.rest.me (search rules) c.loop-name.invariant.1)

pub invariant_of-seat : goal.invariant_of-seat
invariant_of-seat c =
    let dealt = c.split_seat.ensures.4 ∙ dealt_is (room_object c.in-Ok.table.shared.key) Idle 0 c.loop-name.name c.args.seats c.loop-name.rest.id c.loop-name.rest.me (search rules) c.loop-name.invariant.1 in (
      fresh_token seat_of c.args.seats Idle 0 c.loop-name.name c.split_seat.result.me dealt (search rules) (search rules),
      sym (ap (λ (x : RoomHolder). amount_held c.loop-name.name (reverse x.0.seen)) dealt),
      settled_none c.args.bound c.loop-name.name (reverse c.split_seat.result.me.0.seen) (ap (λ (x : RoomHolder). reverse x.0.seen) dealt),
    )

pub loop-name-preserved : goal.loop-name-preserved
loop-name-preserved c =
    let o = room_object c.in-Ok.table.shared.key in
    let low = c.loop-name-test.true in
    let table = c.split_seat.ensures.3 ∙ c.loop-name.invariant.0 in
    let dealt = c.split_seat.ensures.4 ∙ dealt_is o Idle 0 c.loop-name.name c.args.seats c.loop-name.rest.id c.loop-name.rest.me (search rules) c.loop-name.invariant.1 in
    let ok : is_ok c.push.result ≡ true = c.is_err.ensures.negation ∙ ap not c.if-is_err.false in
    let added : c.push.new.self.items ≡ c.loop-name.dealt.items ++ room_seat (object_id c.split_seat.result.table_id c.args.seats) c.loop-name.name c.args.stint c.split_seat.result.me ∷ [] = search (rules, ok) in
    let plus : c.loop-name.name ≡ 0 + c.loop-name.name = omega arith in (
      c.split_seat.ensures.0 ∙ c.loop-name.invariant.0,
      c.split_seat.ensures.2 ∙ kept_is o Idle 0 c.loop-name.name c.args.seats c.loop-name.rest.id c.loop-name.rest.me (search rules) c.loop-name.invariant.1,
      added ∙ ((λ i. c.loop-name.invariant.2 i ++ (fresh_room_seat (object_id c.split_seat.result.table_id c.args.seats) c.loop-name.name c.args.stint c.split_seat.result.me dealt ∙ (λ j. seat_info (object_id (table j) c.args.seats) (plus j) c.args.stint [])) i ∷ [])
          ∙ sym (fresh_next (object_id c.in-Ok.table.shared.table_id c.args.seats) c.args.stint 0 c.loop-name.name)),
    )
