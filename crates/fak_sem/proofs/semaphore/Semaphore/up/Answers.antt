use Rattle.fak_sem.proofs.Common.{rules, refl, w64, to_z-of_z}
use Rattle.fak_sem.proofs.SeatCalls.{same_start, tickets_left, seat_unqueued, seat_woken, wakes_not, wakes_one, counts_up}
use Rattle.fak_sem.proofs.semaphore.Semaphore.up.Goals as goal

pub invariant_of-seat-then-not-owes : goal.invariant_of-seat-then-not-owes
invariant_of-seat-then-not-owes g c =
    let start = same_start c.seat.inside.queue c.self.inside.queue c.seat.view_is c.self.view_is c.requires in
    seat_unqueued c.seat.invariant start c.in-Ok.ensures.call refl (wakes_not {found = c.in-Ok.found} (to_z-of_z {w = w64} (search rules)) c.if-not-owes.true)

pub delete_at_last-requires : goal.delete_at_last-requires
delete_at_last-requires g c = record { idle = search rules; left = tickets_left c.seat.invariant (same_start c.seat.inside.queue c.self.inside.queue c.seat.view_is c.self.view_is c.requires) c.in-Ok.ensures.call }

pub invariant_of-seat-2 : goal.invariant_of-seat-2
invariant_of-seat-2 g c =
    let start = same_start c.seat.inside.queue c.self.inside.queue c.seat.view_is c.self.view_is c.requires in
    seat_woken c.seat.invariant start c.in-Ok.ensures.call c.delete_at_last.ensures.call c.delete_at_last.ensures.idle refl (wakes_one {found = c.in-Ok.found} (to_z-of_z {w = w64} (search rules)) c.if-not-owes.false)

pub returns-then-not-owes-clause-counts : goal.returns-then-not-owes-clause-counts
returns-then-not-owes-clause-counts g c =
    let start = same_start c.seat.inside.queue c.self.inside.queue c.seat.view_is c.self.view_is c.requires in
    counts_up start c.in-Ok.ensures.call c.seat.inside.queue c.seat.inside.queue c.seat.view_is refl refl (wakes_not {found = c.in-Ok.found} (to_z-of_z {w = w64} (search rules)) c.if-not-owes.true)

pub returns-clause-counts : goal.returns-clause-counts
returns-clause-counts g c =
    let start = same_start c.seat.inside.queue c.self.inside.queue c.seat.view_is c.self.view_is c.requires in
    counts_up start c.in-Ok.ensures.call c.seat.inside.queue c.delete_at_last.new.seat c.seat.view_is refl refl (wakes_one {found = c.in-Ok.found} (to_z-of_z {w = w64} (search rules)) c.if-not-owes.false)
