use Rattle.fak_sem.proofs.Common.{rules, refl, w64, arith, pos, ◌<ℤ◌, true, false, to_z-of_z, Waking}
use Rattle.fak_sem.proofs.SeatCalls.{wakes_not, wakes_one}
use Rattle.fak_sem.proofs.StepCalls.{same_start, stands_so, at_standing, tickets_left, seat_credited, seat_claimed_out, begins_up, counts_as_begun}
use Rattle.fak_sem.proofs.OneStep.{item_claimed}
use Rattle.fak_sem.proofs.semaphore.Semaphore.claim_up.Goals as goal

pub invariant_of-seat-then-not-owes : goal.invariant_of-seat-then-not-owes
invariant_of-seat-then-not-owes g c =
    let start = same_start c.seat.inside.queue c.self.inside.queue c.seat.view_is c.self.view_is c.requires.object in
    let none = wakes_not {found = c.in-Ok.found} (to_z-of_z {w = w64} (search rules)) c.if-not-owes.true in
    seat_credited c.seat.invariant start c.in-Ok.ensures.call c.seat.inside.standing c.seat.invariant.stands (omega arith) (omega (arith, none))

pub returns-then-not-owes-clause-counts : goal.returns-then-not-owes-clause-counts
returns-then-not-owes-clause-counts g c =
    let start = same_start c.seat.inside.queue c.self.inside.queue c.seat.view_is c.self.view_is c.requires.object in
    counts_as_begun c.seat.inside.queue c.seat.inside.queue start c.in-Ok.ensures.call c.seat.view_is false (wakes_not {found = c.in-Ok.found} (to_z-of_z {w = w64} (search rules)) c.if-not-owes.true)

pub claim_item-requires : goal.claim_item-requires
claim_item-requires g c =
    let start = same_start c.seat.inside.queue c.self.inside.queue c.seat.view_is c.self.view_is c.requires.object in
    let one = wakes_one {found = c.in-Ok.found} (to_z-of_z {w = w64} (search rules)) c.if-not-owes.false in
    let s = at_standing (stands_so c.seat.inside.queue c.seat.view_is c.requires.idle) c.seat.invariant in
    record { idle = search rules; left = tickets_left (seat_credited s start c.in-Ok.ensures.call Waking s.stands (omega arith) (omega (arith, one))) refl }

pub invariant_of-seat-2 : goal.invariant_of-seat-2
invariant_of-seat-2 g c =
    let start = same_start c.seat.inside.queue c.self.inside.queue c.seat.view_is c.self.view_is c.requires.object in
    let one = wakes_one {found = c.in-Ok.found} (to_z-of_z {w = w64} (search rules)) c.if-not-owes.false in
    let s = at_standing (stands_so c.seat.inside.queue c.seat.view_is c.requires.idle) c.seat.invariant in
    seat_claimed_out c.self.inside.queue.size c.claim_item.new.seat (seat_credited s start c.in-Ok.ensures.call Waking s.stands (omega arith) (omega (arith, one))) c.claim_item.result c.claim_item.ensures.call

pub returns-clause-call : goal.returns-clause-call
returns-clause-call g c =
    let owes : c.in-Ok.found <ℤ pos 0 = search rules in
    begins_up c.seat.invariant c.self.view_is c.seat.view_is (invariant_of-seat-2 g c) c.in-Ok.ensures.call owes c.claim_item.ensures.call

pub returns-clause-counts : goal.returns-clause-counts
returns-clause-counts g c =
    let start = same_start c.seat.inside.queue c.self.inside.queue c.seat.view_is c.self.view_is c.requires.object in
    counts_as_begun c.seat.inside.queue c.claim_item.new.seat start c.in-Ok.ensures.call c.seat.view_is true (wakes_one {found = c.in-Ok.found} (to_z-of_z {w = w64} (search rules)) c.if-not-owes.false)

pub returns-clause-claims : goal.returns-clause-claims
returns-clause-claims g c = item_claimed c.seat.invariant c.self.view_is c.seat.view_is c.claim_item.result (invariant_of-seat-2 g c) c.claim_item.ensures.call
