use Rattle.fak_count.proofs.Common.{rules, [], ◌∷◌, refl, ◌+◌, ◌-◌, ◌^◌, ◌<◌, ◌∙◌, w64, arith, inl, inr, to_z-of_z, Up, No, Granted, Refused, Withdrawn, token_name, token_phase}
use Rattle.fak_count.proofs.RoomCalls.{did_refuse, did_claim, did_withdraw, token_adding, token_backing, held_fits, at_room, same_table, own_token, within_stint, seat_after, held_after, makes_call, withdraws_claim}
use Rattle.fak_count.proofs.rooms.room.Room.tir.Goals as goal

-- ---- refused at the test

pub invariant_of-seat : goal.invariant_of-seat
invariant_of-seat c =
    let at = at_room c.self.inside.table.shared.key c.seat.inside.left c.seat.invariant c.seat.view_is c.self.view_is c.requires.object in
    let bound = c.self.invariant.1 in
    let fails = c.if-not-fits.true in
    let did = did_refuse (own_token at) c.test-tested.ensures.told.told (omega (arith, bound, fails)) in
    seat_after at did (Refused c.args.d ∷ []) refl c.seat.inside.held (omega arith)

pub returns-then-not-fits-clause-call : goal.returns-then-not-fits-clause-call
returns-then-not-fits-clause-call c =
    let at = at_room c.self.inside.table.shared.key c.seat.inside.left c.seat.invariant c.seat.view_is c.self.view_is c.requires.object in
    let bound = c.self.invariant.1 in
    let fails = c.if-not-fits.true in
    let did = did_refuse (own_token at) c.test-tested.ensures.told.told (omega (arith, bound, fails)) in
    (within_stint at c.if-seat-eq0.false, inl (makes_call at (No c.args.d) did c.test-tested.ensures.told.same c.seat.inside.left (omega arith) (to_z-of_z {w = w64} (search rules) ∙ c.count_of.ensures.difference)))

pub returns-then-not-fits-clause-held : goal.returns-then-not-fits-clause-held
returns-then-not-fits-clause-held c =
    let at = at_room c.self.inside.table.shared.key c.seat.inside.left c.seat.invariant c.seat.view_is c.self.view_is c.requires.object in
    let bound = c.self.invariant.1 in
    let fails = c.if-not-fits.true in
    let did = did_refuse (own_token at) c.test-tested.ensures.told.told (omega (arith, bound, fails)) in
    let e = held_after at did c.test-tested.new.token.table_id c.seat.inside.left in
    omega (arith, e)

-- ---- refused at the add

pub add-found-requires-clause-token : goal.add-found-requires-clause-token
add-found-requires-clause-token c =
    let at = at_room c.self.inside.table.shared.key c.seat.inside.left c.seat.invariant c.seat.view_is c.self.view_is c.requires.object in
    let bound = c.self.invariant.1 in
    let passes = c.if-not-fits.false in
    let token = token_adding (own_token at) c.test-tested.ensures.told.told (omega (arith, bound, passes)) in
    let table = c.test-tested.ensures.told.same ∙ same_table at in
    record { table_is = (table, c.self.invariant.0, refl); seat = token_name token; stands = token_phase token }

pub withdraw-requires-clause-token : goal.withdraw-requires-clause-token
withdraw-requires-clause-token c =
    let at = at_room c.self.inside.table.shared.key c.seat.inside.left c.seat.invariant c.seat.view_is c.self.view_is c.requires.object in
    let bound = c.self.invariant.1 in
    let passes = c.if-not-fits.false in
    let fails = c.if-not-still_fits.true in
    let token = token_backing (own_token at) c.test-tested.ensures.told.told (omega (arith, bound, passes)) c.add-found.ensures.told.told (omega (arith, bound, fails)) in
    let table = c.add-found.ensures.told.same ∙ (c.test-tested.ensures.told.same ∙ same_table at) in
    record { table_is = (table, c.self.invariant.0, refl); seat = token_name token; stands = token_phase token }

pub invariant_of-seat-then-not-still_fits : goal.invariant_of-seat-then-not-still_fits
invariant_of-seat-then-not-still_fits c =
    let at = at_room c.self.inside.table.shared.key c.seat.inside.left c.seat.invariant c.seat.view_is c.self.view_is c.requires.object in
    let bound = c.self.invariant.1 in
    let passes = c.if-not-fits.false in
    let fails = c.if-not-still_fits.true in
    let did = did_withdraw (own_token at) c.test-tested.ensures.told.told (omega (arith, bound, passes)) c.add-found.ensures.told.told (omega (arith, bound, fails)) c.withdraw.ensures.told.told in
    seat_after at did (Withdrawn c.args.d ∷ []) refl c.seat.inside.held (omega arith)

pub returns-then-not-still_fits-clause-call : goal.returns-then-not-still_fits-clause-call
returns-then-not-still_fits-clause-call c =
    let at = at_room c.self.inside.table.shared.key c.seat.inside.left c.seat.invariant c.seat.view_is c.self.view_is c.requires.object in
    let bound = c.self.invariant.1 in
    let passes = c.if-not-fits.false in
    let fails = c.if-not-still_fits.true in
    let did = did_withdraw (own_token at) c.test-tested.ensures.told.told (omega (arith, bound, passes)) c.add-found.ensures.told.told (omega (arith, bound, fails)) c.withdraw.ensures.told.told in
    let same = c.withdraw.ensures.told.same ∙ (c.add-found.ensures.told.same ∙ c.test-tested.ensures.told.same) in
    (within_stint at c.if-seat-eq0.false, inr (withdraws_claim at did same (to_z-of_z {w = w64} (search rules) ∙ c.count_of-then-not-still_fits.ensures.difference)))

pub returns-then-not-still_fits-clause-held : goal.returns-then-not-still_fits-clause-held
returns-then-not-still_fits-clause-held c =
    let at = at_room c.self.inside.table.shared.key c.seat.inside.left c.seat.invariant c.seat.view_is c.self.view_is c.requires.object in
    let bound = c.self.invariant.1 in
    let passes = c.if-not-fits.false in
    let fails = c.if-not-still_fits.true in
    let did = did_withdraw (own_token at) c.test-tested.ensures.told.told (omega (arith, bound, passes)) c.add-found.ensures.told.told (omega (arith, bound, fails)) c.withdraw.ensures.told.told in
    let e = held_after at did c.withdraw.new.token.table_id c.seat.inside.left in
    omega (arith, e)

-- ---- granted

pub overflow_add-seat : goal.overflow_add-seat
overflow_add-seat c =
    let at = at_room c.self.inside.table.shared.key c.seat.inside.left c.seat.invariant c.seat.view_is c.self.view_is c.requires.object in
    let bound = c.self.invariant.1 in
    let passes = c.if-not-fits.false in
    let still_passes = c.if-not-still_fits.false in
    let did = did_claim (own_token at) c.test-tested.ensures.told.told (omega (arith, bound, passes)) c.add-found.ensures.told.told (omega (arith, bound, still_passes)) in
    let held = (seat_after at did (Granted c.args.d ∷ []) refl (c.seat.inside.held + c.args.d) (omega arith)).1 in
    let fits = held_fits (own_token at) c.test-tested.ensures.told.told (omega (arith, bound, passes)) c.add-found.ensures.told.told (omega (arith, bound, still_passes)) in
    let all : c.seat.inside.held + c.args.d < 2 ^ 64 = omega (arith, held, fits) in
    search (rules, all)

pub invariant_of-seat-2 : goal.invariant_of-seat-2
invariant_of-seat-2 c =
    let at = at_room c.self.inside.table.shared.key c.seat.inside.left c.seat.invariant c.seat.view_is c.self.view_is c.requires.object in
    let bound = c.self.invariant.1 in
    let passes = c.if-not-fits.false in
    let still_passes = c.if-not-still_fits.false in
    let did = did_claim (own_token at) c.test-tested.ensures.told.told (omega (arith, bound, passes)) c.add-found.ensures.told.told (omega (arith, bound, still_passes)) in
    seat_after at did (Granted c.args.d ∷ []) refl (c.seat.inside.held + c.args.d) (omega arith)

pub returns-clause-call : goal.returns-clause-call
returns-clause-call c =
    let at = at_room c.self.inside.table.shared.key c.seat.inside.left c.seat.invariant c.seat.view_is c.self.view_is c.requires.object in
    let bound = c.self.invariant.1 in
    let passes = c.if-not-fits.false in
    let still_passes = c.if-not-still_fits.false in
    let did = did_claim (own_token at) c.test-tested.ensures.told.told (omega (arith, bound, passes)) c.add-found.ensures.told.told (omega (arith, bound, still_passes)) in
    let some_left = c.if-seat-eq0.false in
    let same = c.add-found.ensures.told.same ∙ c.test-tested.ensures.told.same in
    (within_stint at some_left, makes_call at (Up c.args.d) did same (c.seat.inside.left - 1) (omega (arith, some_left)) (to_z-of_z {w = w64} (search rules) ∙ c.count_of-2.ensures.difference))

pub returns-clause-held : goal.returns-clause-held
returns-clause-held c =
    let at = at_room c.self.inside.table.shared.key c.seat.inside.left c.seat.invariant c.seat.view_is c.self.view_is c.requires.object in
    let bound = c.self.invariant.1 in
    let passes = c.if-not-fits.false in
    let still_passes = c.if-not-still_fits.false in
    let did = did_claim (own_token at) c.test-tested.ensures.told.told (omega (arith, bound, passes)) c.add-found.ensures.told.told (omega (arith, bound, still_passes)) in
    let e = held_after at did c.add-found.new.token.table_id (c.seat.inside.left - 1) in
    omega (arith, e)
