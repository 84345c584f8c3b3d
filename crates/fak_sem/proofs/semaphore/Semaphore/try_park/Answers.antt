use Rattle.fak_sem.proofs.Common.{rules, common_steps, arith, sym, ◌∙◌}
use Rattle.fak_sem.proofs.StepCalls.{at_standing, tickets_left, seat_claimed_in, seat_filled, seat_waits_in, parks_claim, parks_look, parks_whole}
use Rattle.fak_sem.proofs.OneStep.{park_claims, park_fills, park_looks}
use Rattle.fak_sem.proofs.semaphore.Semaphore.try_park.Goals as goal

pub claim_room-requires : goal.claim_room-requires
claim_room-requires g c = record { idle = search rules; left = grind (arith, common_steps, tickets_left, at_standing) }

pub invariant_of-seat : goal.invariant_of-seat
invariant_of-seat g c =
    let e = sym c.replace.ensures.value ∙ c.in-Parking.is in
    seat_claimed_in c.self.inside.queue.size c.claim_room.new.seat (at_standing e c.seat.invariant) c.claim_room.result c.claim_room.ensures.call

pub returns-in-Parking-clause-call : goal.returns-in-Parking-clause-call
returns-in-Parking-clause-call g c =
    let e = sym c.replace.ensures.value ∙ c.in-Parking.is in
    parks_claim c.seat.invariant c.self.view_is c.seat.view_is e (invariant_of-seat g c) c.claim_room.ensures.call

pub invariant_of-seat-in-Some : goal.invariant_of-seat-in-Some
invariant_of-seat-in-Some g c =
    let e = sym c.replace.ensures.value ∙ c.in-Inserting.is in
    let s = at_standing e c.seat.invariant in
    at_standing (sym c.replace.ensures.after) (seat_filled s.stands.0 s (c.in-Some.ensures.call s.stands.0 s.stands.1).1 c.in-Some.ensures.state)

pub invariant_of-seat-in-None : goal.invariant_of-seat-in-None
invariant_of-seat-in-None g c =
    let e = sym c.replace.ensures.value ∙ c.in-Inserting.is in
    let s = at_standing e c.seat.invariant in
    seat_waits_in s s.stands.1 (c.in-None.ensures.call s.stands.0 s.stands.1) c.in-None.ensures.state

pub returns-in-Some-clause-call : goal.returns-in-Some-clause-call
returns-in-Some-clause-call g c =
    let e = sym c.replace.ensures.value ∙ c.in-Inserting.is in
    let s = at_standing e c.seat.invariant in
    let fills = (c.in-Some.ensures.call s.stands.0 s.stands.1).1 in
    parks_whole c.seat.invariant c.self.view_is c.seat.view_is e (seat_filled s.stands.0 s fills c.in-Some.ensures.state) fills

pub returns-in-None-clause-call : goal.returns-in-None-clause-call
returns-in-None-clause-call g c =
    let e = sym c.replace.ensures.value ∙ c.in-Inserting.is in
    let s = at_standing e c.seat.invariant in
    let waits = c.in-None.ensures.call s.stands.0 s.stands.1 in
    parks_look c.seat.invariant c.self.view_is c.seat.view_is e (seat_waits_in s s.stands.1 waits c.in-None.ensures.state) waits

pub returns-in-Parking-clause-step : goal.returns-in-Parking-clause-step
returns-in-Parking-clause-step g c =
    let e = sym c.replace.ensures.value ∙ c.in-Parking.is in
    park_claims c.seat.invariant c.self.view_is c.seat.view_is _ c.claim_room.result e (invariant_of-seat g c) c.claim_room.ensures.call

pub returns-in-Some-clause-step : goal.returns-in-Some-clause-step
returns-in-Some-clause-step g c =
    let e = sym c.replace.ensures.value ∙ c.in-Inserting.is in
    let s = at_standing e c.seat.invariant in
    let fills = (c.in-Some.ensures.call s.stands.0 s.stands.1).1 in
    park_fills c.seat.invariant c.self.view_is c.seat.view_is s.stands.0 _ e (seat_filled s.stands.0 s fills c.in-Some.ensures.state) s.stands.1 fills

pub returns-in-None-clause-step : goal.returns-in-None-clause-step
returns-in-None-clause-step g c =
    let e = sym c.replace.ensures.value ∙ c.in-Inserting.is in
    let s = at_standing e c.seat.invariant in
    let waits = c.in-None.ensures.call s.stands.0 s.stands.1 in
    park_looks c.seat.invariant c.self.view_is c.seat.view_is s.stands.0 e (seat_waits_in s s.stands.1 waits c.in-None.ensures.state) s.stands.1 waits
