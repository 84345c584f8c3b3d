use Rattle.fak_sem.proofs.Common.{rules, refl, ap, w64, arith, pos, ◌<ℤ◌, to_z-of_z, Parking, StepSeatInfo}
use Rattle.fak_sem.proofs.SeatCalls.{parks_not, parks_one, passes_not, passes_one, counts_down}
use Rattle.fak_sem.proofs.StepCalls.{same_start, stands_so, at_standing, tickets_left, seat_credited, seat_claimed_in, begins_down}
use Rattle.fak_sem.proofs.OneStep.{room_claimed}
use Rattle.fak_sem.proofs.semaphore.Semaphore.claim_down.Goals as goal

pub invariant_of-seat-then-passes : goal.invariant_of-seat-then-passes
invariant_of-seat-then-passes g c =
    let start = same_start c.seat.inside.queue c.self.inside.queue c.seat.view_is c.self.view_is c.requires.object in
    let none = parks_not {found = c.in-Ok.found} (to_z-of_z {w = w64} (search rules)) c.if-passes.true in
    seat_credited c.seat.invariant start c.in-Ok.ensures.call c.seat.inside.standing c.seat.invariant.stands (omega (arith, none)) (omega arith)

pub returns-then-passes-clause-counts : goal.returns-then-passes-clause-counts
returns-then-passes-clause-counts g c =
    let start = same_start c.seat.inside.queue c.self.inside.queue c.seat.view_is c.self.view_is c.requires.object in
    counts_down start c.in-Ok.ensures.call c.seat.inside.queue c.seat.inside.queue (ap (λ (x : StepSeatInfo g.row.T.Denot). x.seat) c.seat.view_is) (passes_one {found = c.in-Ok.found} (to_z-of_z {w = w64} (search rules)) c.if-passes.true) (parks_not {found = c.in-Ok.found} (to_z-of_z {w = w64} (search rules)) c.if-passes.true) refl

pub claim_room-requires : goal.claim_room-requires
claim_room-requires g c =
    let start = same_start c.seat.inside.queue c.self.inside.queue c.seat.view_is c.self.view_is c.requires.object in
    let one = parks_one {found = c.in-Ok.found} (to_z-of_z {w = w64} (search rules)) c.if-passes.false in
    let s = at_standing (stands_so c.seat.inside.queue c.seat.view_is c.requires.idle) c.seat.invariant in
    record { idle = search rules; left = tickets_left (seat_credited s start c.in-Ok.ensures.call (Parking c.args.who) s.stands (omega (arith, one)) (omega arith)) refl }

pub invariant_of-seat-2 : goal.invariant_of-seat-2
invariant_of-seat-2 g c =
    let start = same_start c.seat.inside.queue c.self.inside.queue c.seat.view_is c.self.view_is c.requires.object in
    let one = parks_one {found = c.in-Ok.found} (to_z-of_z {w = w64} (search rules)) c.if-passes.false in
    let s = at_standing (stands_so c.seat.inside.queue c.seat.view_is c.requires.idle) c.seat.invariant in
    seat_claimed_in c.self.inside.queue.size c.claim_room.new.seat (seat_credited s start c.in-Ok.ensures.call (Parking c.args.who) s.stands (omega (arith, one)) (omega arith)) c.claim_room.result c.claim_room.ensures.call

pub returns-clause-call : goal.returns-clause-call
returns-clause-call g c =
    let short : c.in-Ok.found <ℤ pos 1 = search rules in
    begins_down c.seat.invariant c.self.view_is c.seat.view_is (invariant_of-seat-2 g c) c.in-Ok.ensures.call short c.claim_room.ensures.call

pub returns-clause-counts : goal.returns-clause-counts
returns-clause-counts g c =
    let start = same_start c.seat.inside.queue c.self.inside.queue c.seat.view_is c.self.view_is c.requires.object in
    counts_down start c.in-Ok.ensures.call c.seat.inside.queue c.claim_room.new.seat (ap (λ (x : StepSeatInfo g.row.T.Denot). x.seat) c.seat.view_is) (passes_not {found = c.in-Ok.found} (to_z-of_z {w = w64} (search rules)) c.if-passes.false) (parks_one {found = c.in-Ok.found} (to_z-of_z {w = w64} (search rules)) c.if-passes.false) refl

pub returns-clause-claims : goal.returns-clause-claims
returns-clause-claims g c = room_claimed c.seat.invariant c.self.view_is c.seat.view_is c.args.who c.claim_room.result (invariant_of-seat-2 g c) c.claim_room.ensures.call
