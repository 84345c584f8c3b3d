use Rattle.fak_queue.proofs.Common.{rules, sym, ap, ◌∙◌, TurnOut}
use Rattle.fak_queue.proofs.Trying.{noted_waits_out, noted_taken, seat_waits_out, state_waits_out, drawn_waits_out, waits_out, names_looked_out, phase_looked_out, slot_looked_out, seat_taken, state_taken, drawn_taken, takes_item}
use Rattle.fak_queue.proofs.SeatParts.{noted_is, seat_is}
use Rattle.fak_queue.proofs.queue.Queue.try_take_by.Goals as goal

pub invariant_of-seat : goal.invariant_of-seat
invariant_of-seat g c = seat_waits_out c.self.inside.table.shared.key c.seat.invariant c.self.invariant (seat_is c.seat.view_is) c.self.view_is c.requires.object c.finds_item.ensures.same c.finds_item.new.token.me (c.in-TurnOut.is ∙ ap (λ k. TurnOut k) (sym c.place-place.ensures.ticket)) c.if-not-finds_item.ensures.told

pub returns-then-not-finds_item-clause-state : goal.returns-then-not-finds_item-clause-state
returns-then-not-finds_item-clause-state g c = state_waits_out c.self.inside.table.shared.key c.seat.invariant c.self.invariant (seat_is c.seat.view_is) c.self.view_is c.requires.object c.finds_item.ensures.same c.finds_item.new.token.me (c.in-TurnOut.is ∙ ap (λ k. TurnOut k) (sym c.place-place.ensures.ticket)) c.if-not-finds_item.ensures.told

pub returns-then-not-finds_item-clause-left : goal.returns-then-not-finds_item-clause-left
returns-then-not-finds_item-clause-left g c = drawn_waits_out c.self.inside.table.shared.key c.seat.invariant c.self.invariant (seat_is c.seat.view_is) c.self.view_is c.requires.object c.finds_item.ensures.same c.finds_item.new.token.me (c.in-TurnOut.is ∙ ap (λ k. TurnOut k) (sym c.place-place.ensures.ticket)) c.if-not-finds_item.ensures.told

pub returns-then-not-finds_item-clause-call : goal.returns-then-not-finds_item-clause-call
returns-then-not-finds_item-clause-call g c = waits_out c.self.inside.table.shared.key c.seat.invariant c.self.invariant (seat_is c.seat.view_is) c.self.view_is c.requires.object c.finds_item.ensures.same c.finds_item.new.token.me (c.in-TurnOut.is ∙ ap (λ k. TurnOut k) (sym c.place-place.ensures.ticket)) c.if-not-finds_item.ensures.told

pub empty_cell-requires-clause-token : goal.empty_cell-requires-clause-token
empty_cell-requires-clause-token g c = record { table = search rules; place = search rules; seat = (c.seat.inside.name, names_looked_out c.self.inside.table.shared.key c.seat.invariant c.self.invariant (seat_is c.seat.view_is) c.self.view_is c.requires.object c.finds_item.ensures.same c.finds_item.new.token.me (c.in-TurnOut.is ∙ ap (λ k. TurnOut k) (sym c.place-place.ensures.ticket)) c.if-not-finds_item.ensures.told); phase = (phase_looked_out c.self.inside.table.shared.key c.seat.invariant c.self.invariant (seat_is c.seat.view_is) c.self.view_is c.requires.object c.finds_item.ensures.same c.finds_item.new.token.me (c.in-TurnOut.is ∙ ap (λ k. TurnOut k) (sym c.place-place.ensures.ticket)) c.if-not-finds_item.ensures.told) }

pub empty_cell-requires-clause-slot : goal.empty_cell-requires-clause-slot
empty_cell-requires-clause-slot g c = slot_looked_out c.self.inside.table.shared.key c.seat.invariant c.self.invariant (seat_is c.seat.view_is) c.self.view_is c.requires.object c.finds_item.ensures.same c.finds_item.new.token.me (c.in-TurnOut.is ∙ ap (λ k. TurnOut k) (sym c.place-place.ensures.ticket)) c.if-not-finds_item.ensures.told c.place-place.result.cell c.place-place.ensures.place.cell_is

pub invariant_of-seat-2 : goal.invariant_of-seat-2
invariant_of-seat-2 g c = seat_taken c.self.inside.table.shared.key c.seat.invariant c.self.invariant (seat_is c.seat.view_is) c.self.view_is c.requires.object (c.empty_cell.ensures.same ∙ c.finds_item.ensures.same) c.empty_cell.new.token.me (c.in-TurnOut.is ∙ ap (λ k. TurnOut k) (sym c.place-place.ensures.ticket)) c.if-not-finds_item.ensures.told c.empty_cell.ensures.told

pub returns-clause-state : goal.returns-clause-state
returns-clause-state g c = state_taken c.self.inside.table.shared.key c.seat.invariant c.self.invariant (seat_is c.seat.view_is) c.self.view_is c.requires.object (c.empty_cell.ensures.same ∙ c.finds_item.ensures.same) c.empty_cell.new.token.me (c.in-TurnOut.is ∙ ap (λ k. TurnOut k) (sym c.place-place.ensures.ticket)) c.if-not-finds_item.ensures.told c.empty_cell.ensures.told

pub returns-clause-left : goal.returns-clause-left
returns-clause-left g c = drawn_taken c.self.inside.table.shared.key c.seat.invariant c.self.invariant (seat_is c.seat.view_is) c.self.view_is c.requires.object (c.empty_cell.ensures.same ∙ c.finds_item.ensures.same) c.empty_cell.new.token.me (c.in-TurnOut.is ∙ ap (λ k. TurnOut k) (sym c.place-place.ensures.ticket)) c.if-not-finds_item.ensures.told c.empty_cell.ensures.told

pub returns-clause-call : goal.returns-clause-call
returns-clause-call g c = λ k e. takes_item c.self.inside.table.shared.key c.seat.invariant c.self.invariant (seat_is c.seat.view_is) c.self.view_is c.requires.object (c.empty_cell.ensures.same ∙ c.finds_item.ensures.same) c.empty_cell.new.token.me (c.in-TurnOut.is ∙ ap (λ k. TurnOut k) (sym c.place-place.ensures.ticket)) c.if-not-finds_item.ensures.told c.empty_cell.ensures.told c.in-TurnOut.ticket k (sym c.place-place.ensures.ticket) e

pub returns-then-not-finds_item-clause-noted : goal.returns-then-not-finds_item-clause-noted
returns-then-not-finds_item-clause-noted g c = noted_waits_out c.self.inside.table.shared.key c.seat.invariant c.self.invariant (seat_is c.seat.view_is) c.self.view_is c.requires.object c.finds_item.ensures.same c.finds_item.new.token.me (c.in-TurnOut.is ∙ ap (λ k. TurnOut k) (sym c.place-place.ensures.ticket)) c.if-not-finds_item.ensures.told ∙ noted_is c.seat.view_is

pub returns-clause-noted : goal.returns-clause-noted
returns-clause-noted g c = noted_taken c.self.inside.table.shared.key c.seat.invariant c.self.invariant (seat_is c.seat.view_is) c.self.view_is c.requires.object (c.empty_cell.ensures.same ∙ c.finds_item.ensures.same) c.empty_cell.new.token.me (c.in-TurnOut.is ∙ ap (λ k. TurnOut k) (sym c.place-place.ensures.ticket)) c.if-not-finds_item.ensures.told c.empty_cell.ensures.told ∙ noted_is c.seat.view_is
