use Rattle.fak_sem.proofs.Common.{rules, common_steps, arith, sym, ◌∙◌}
use Rattle.fak_sem.proofs.StepCalls.{at_standing, tickets_left, seat_claimed_out, seat_taken, seat_waits_out, wakes_claim, wakes_look, wakes_whole}
use Rattle.fak_sem.proofs.OneStep.{wake_claims, wake_looks, wake_takes}
use Rattle.fak_sem.proofs.semaphore.Semaphore.try_wake.Goals as goal

pub claim_item-requires : goal.claim_item-requires
claim_item-requires g c = record { idle = search rules; left = grind (arith, common_steps, tickets_left, at_standing) }

pub invariant_of-seat : goal.invariant_of-seat
invariant_of-seat g c = let e = sym c.replace.ensures.value ∙ c.in-Waking.is in seat_claimed_out c.self.inside.queue.size c.claim_item.new.seat (at_standing e c.seat.invariant) c.claim_item.result c.claim_item.ensures.call

pub returns-in-Waking-clause-call : goal.returns-in-Waking-clause-call
returns-in-Waking-clause-call g c =
    let e = sym c.replace.ensures.value ∙ c.in-Waking.is in
    wakes_claim c.seat.invariant c.self.view_is c.seat.view_is e (invariant_of-seat g c) c.claim_item.ensures.call

pub invariant_of-seat-in-Some : goal.invariant_of-seat-in-Some
invariant_of-seat-in-Some g c =
    let e = sym c.replace.ensures.value ∙ c.in-Deleting.is in
    let s = at_standing e c.seat.invariant in
    at_standing (sym c.replace.ensures.after) (seat_taken s (c.in-Some.ensures.call s.stands.0 s.stands.1).1 c.in-Some.ensures.state)

pub returns-in-Some-clause-call : goal.returns-in-Some-clause-call
returns-in-Some-clause-call g c =
    let e = sym c.replace.ensures.value ∙ c.in-Deleting.is in
    let s = at_standing e c.seat.invariant in
    wakes_whole c.seat.invariant c.self.view_is c.seat.view_is e (seat_taken s (c.in-Some.ensures.call s.stands.0 s.stands.1).1 c.in-Some.ensures.state) c.in-Some.ensures.call

pub returns-in-None-clause-call : goal.returns-in-None-clause-call
returns-in-None-clause-call g c =
    let e = sym c.replace.ensures.value ∙ c.in-Deleting.is in
    let s = at_standing e c.seat.invariant in
    wakes_look c.seat.invariant c.self.view_is c.seat.view_is e (seat_waits_out s s.stands.1 (c.in-None.ensures.call s.stands.0 s.stands.1) c.in-None.ensures.state) c.in-None.ensures.state c.in-None.ensures.call

pub returns-in-Waking-clause-step : goal.returns-in-Waking-clause-step
returns-in-Waking-clause-step g c =
    let e = sym c.replace.ensures.value ∙ c.in-Waking.is in
    wake_claims c.seat.invariant c.self.view_is c.seat.view_is c.claim_item.result e (invariant_of-seat g c) c.claim_item.ensures.call

pub returns-in-Some-clause-step : goal.returns-in-Some-clause-step
returns-in-Some-clause-step g c =
    let e = sym c.replace.ensures.value ∙ c.in-Deleting.is in
    let s = at_standing e c.seat.invariant in
    let takes = (c.in-Some.ensures.call s.stands.0 s.stands.1).1 in
    wake_takes c.seat.invariant c.self.view_is c.seat.view_is s.stands.0 _ _ e (seat_taken s takes c.in-Some.ensures.state) s.stands.1 takes

pub returns-in-None-clause-step : goal.returns-in-None-clause-step
returns-in-None-clause-step g c =
    let e = sym c.replace.ensures.value ∙ c.in-Deleting.is in
    let s = at_standing e c.seat.invariant in
    let waits = c.in-None.ensures.call s.stands.0 s.stands.1 in
    wake_looks c.seat.invariant c.self.view_is c.seat.view_is s.stands.0 e (seat_waits_out s s.stands.1 waits c.in-None.ensures.state) s.stands.1 waits
