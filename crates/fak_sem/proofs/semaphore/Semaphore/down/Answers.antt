use Rattle.fak_sem.proofs.Common.{rules, refl, w64, to_z-of_z}
use Rattle.fak_sem.proofs.SeatCalls.{same_start, tickets_left, seat_unqueued, seat_parked, parks_not, parks_one, passes_not, passes_one, counts_down}
use Rattle.fak_sem.proofs.semaphore.Semaphore.down.Goals as goal

pub invariant_of-seat-then-passes : goal.invariant_of-seat-then-passes
invariant_of-seat-then-passes g c =
    let start = same_start c.seat.inside.queue c.self.inside.queue c.seat.view_is c.self.view_is c.requires in
    seat_unqueued c.seat.invariant start c.in-Ok.ensures.call (parks_not {found = c.in-Ok.found} (to_z-of_z {w = w64} (search rules)) c.if-passes.true) refl

pub insert_at_last-requires : goal.insert_at_last-requires
insert_at_last-requires g c = record { idle = search rules; left = tickets_left c.seat.invariant (same_start c.seat.inside.queue c.self.inside.queue c.seat.view_is c.self.view_is c.requires) c.in-Ok.ensures.call }

pub invariant_of-seat-2 : goal.invariant_of-seat-2
invariant_of-seat-2 g c =
    let start = same_start c.seat.inside.queue c.self.inside.queue c.seat.view_is c.self.view_is c.requires in
    seat_parked c.seat.invariant start c.in-Ok.ensures.call c.insert_at_last.ensures.call c.insert_at_last.ensures.idle (parks_one {found = c.in-Ok.found} (to_z-of_z {w = w64} (search rules)) c.if-passes.false) refl

pub returns-then-passes-clause-counts : goal.returns-then-passes-clause-counts
returns-then-passes-clause-counts g c =
    let start = same_start c.seat.inside.queue c.self.inside.queue c.seat.view_is c.self.view_is c.requires in
    counts_down start c.in-Ok.ensures.call c.seat.inside.queue c.seat.inside.queue c.seat.view_is (passes_one {found = c.in-Ok.found} (to_z-of_z {w = w64} (search rules)) c.if-passes.true) (parks_not {found = c.in-Ok.found} (to_z-of_z {w = w64} (search rules)) c.if-passes.true) refl

pub returns-clause-counts : goal.returns-clause-counts
returns-clause-counts g c =
    let start = same_start c.seat.inside.queue c.self.inside.queue c.seat.view_is c.self.view_is c.requires in
    counts_down start c.in-Ok.ensures.call c.seat.inside.queue c.insert_at_last.new.seat c.seat.view_is (passes_not {found = c.in-Ok.found} (to_z-of_z {w = w64} (search rules)) c.if-passes.false) (parks_one {found = c.in-Ok.found} (to_z-of_z {w = w64} (search rules)) c.if-passes.false) refl

pub invariant_of-seat : goal.invariant_of-seat
invariant_of-seat g c = search rules
