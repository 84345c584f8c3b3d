use Rattle.fak_queue.proofs.Common.{rules, sym, ap, ◌∙◌, TurnIn}
use Rattle.fak_queue.proofs.Trying.{noted_waits_in, noted_filled, seat_waits_in, state_waits_in, drawn_waits_in, waits_in, names_looked_in, phase_looked_in, slot_looked_in, seat_filled, state_filled, drawn_filled, fills_cell}
use Rattle.fak_queue.proofs.SeatParts.{noted_is, seat_is}
use Rattle.fak_queue.proofs.queue.Queue.try_fill_by.Goals as goal

pub invariant_of-seat : goal.invariant_of-seat
invariant_of-seat g c = seat_waits_in c.self.inside.table.shared.key c.seat.invariant c.self.invariant (seat_is c.seat.view_is) c.self.view_is c.requires.object c.finds_room.ensures.same c.finds_room.new.token.me (c.in-TurnIn.is ∙ ap (λ k. TurnIn k c.in-TurnIn.field-1) (sym c.place-place.ensures.ticket)) c.if-not-finds_room.ensures.told

pub returns-then-not-finds_room-clause-state : goal.returns-then-not-finds_room-clause-state
returns-then-not-finds_room-clause-state g c = state_waits_in c.self.inside.table.shared.key c.seat.invariant c.self.invariant (seat_is c.seat.view_is) c.self.view_is c.requires.object c.finds_room.ensures.same c.finds_room.new.token.me (c.in-TurnIn.is ∙ ap (λ k. TurnIn k c.in-TurnIn.field-1) (sym c.place-place.ensures.ticket)) c.if-not-finds_room.ensures.told

pub returns-then-not-finds_room-clause-left : goal.returns-then-not-finds_room-clause-left
returns-then-not-finds_room-clause-left g c = drawn_waits_in c.self.inside.table.shared.key c.seat.invariant c.self.invariant (seat_is c.seat.view_is) c.self.view_is c.requires.object c.finds_room.ensures.same c.finds_room.new.token.me (c.in-TurnIn.is ∙ ap (λ k. TurnIn k c.in-TurnIn.field-1) (sym c.place-place.ensures.ticket)) c.if-not-finds_room.ensures.told

pub returns-then-not-finds_room-clause-call : goal.returns-then-not-finds_room-clause-call
returns-then-not-finds_room-clause-call g c = waits_in c.self.inside.table.shared.key c.seat.invariant c.self.invariant (seat_is c.seat.view_is) c.self.view_is c.requires.object c.finds_room.ensures.same c.finds_room.new.token.me (c.in-TurnIn.is ∙ ap (λ k. TurnIn k c.in-TurnIn.field-1) (sym c.place-place.ensures.ticket)) c.if-not-finds_room.ensures.told

pub fill_cell_from-requires-clause-token : goal.fill_cell_from-requires-clause-token
fill_cell_from-requires-clause-token g c = record { table = search rules; place = search rules; seat = (c.seat.inside.name, names_looked_in c.self.inside.table.shared.key c.seat.invariant c.self.invariant (seat_is c.seat.view_is) c.self.view_is c.requires.object c.finds_room.ensures.same c.finds_room.new.token.me (c.in-TurnIn.is ∙ ap (λ k. TurnIn k c.in-TurnIn.field-1) (sym c.place-place.ensures.ticket)) c.if-not-finds_room.ensures.told); phase = (let stands = (c.in-TurnIn.is ∙ ap (λ k. TurnIn k c.in-TurnIn.field-1) (sym c.place-place.ensures.ticket)) in (c.in-TurnIn.field-1, stands, phase_looked_in c.self.inside.table.shared.key c.seat.invariant c.self.invariant (seat_is c.seat.view_is) c.self.view_is c.requires.object c.finds_room.ensures.same c.finds_room.new.token.me stands c.if-not-finds_room.ensures.told)) }

pub fill_cell_from-requires-clause-slot : goal.fill_cell_from-requires-clause-slot
fill_cell_from-requires-clause-slot g c = slot_looked_in c.self.inside.table.shared.key c.seat.invariant c.self.invariant (seat_is c.seat.view_is) c.self.view_is c.requires.object c.finds_room.ensures.same c.finds_room.new.token.me (c.in-TurnIn.is ∙ ap (λ k. TurnIn k c.in-TurnIn.field-1) (sym c.place-place.ensures.ticket)) c.if-not-finds_room.ensures.told c.place-place.result.cell c.place-place.ensures.place.cell_is

pub invariant_of-seat-2 : goal.invariant_of-seat-2
invariant_of-seat-2 g c = seat_filled c.self.inside.table.shared.key c.seat.invariant c.self.invariant (seat_is c.seat.view_is) c.self.view_is c.requires.object (c.fill_cell_from.ensures.told.same ∙ c.finds_room.ensures.same) c.fill_cell_from.new.token.me (c.in-TurnIn.is ∙ ap (λ k. TurnIn k c.in-TurnIn.field-1) (sym c.place-place.ensures.ticket)) c.if-not-finds_room.ensures.told c.fill_cell_from.ensures.told.told c.fill_cell_from.ensures.kept

pub returns-clause-state : goal.returns-clause-state
returns-clause-state g c = state_filled c.self.inside.table.shared.key c.seat.invariant c.self.invariant (seat_is c.seat.view_is) c.self.view_is c.requires.object (c.fill_cell_from.ensures.told.same ∙ c.finds_room.ensures.same) c.fill_cell_from.new.token.me (c.in-TurnIn.is ∙ ap (λ k. TurnIn k c.in-TurnIn.field-1) (sym c.place-place.ensures.ticket)) c.if-not-finds_room.ensures.told c.fill_cell_from.ensures.told.told

pub returns-clause-left : goal.returns-clause-left
returns-clause-left g c = drawn_filled c.self.inside.table.shared.key c.seat.invariant c.self.invariant (seat_is c.seat.view_is) c.self.view_is c.requires.object (c.fill_cell_from.ensures.told.same ∙ c.finds_room.ensures.same) c.fill_cell_from.new.token.me (c.in-TurnIn.is ∙ ap (λ k. TurnIn k c.in-TurnIn.field-1) (sym c.place-place.ensures.ticket)) c.if-not-finds_room.ensures.told c.fill_cell_from.ensures.told.told

pub returns-clause-call : goal.returns-clause-call
returns-clause-call g c = λ k e. fills_cell c.self.inside.table.shared.key c.seat.invariant c.self.invariant (seat_is c.seat.view_is) c.self.view_is c.requires.object (c.fill_cell_from.ensures.told.same ∙ c.finds_room.ensures.same) c.fill_cell_from.new.token.me (c.in-TurnIn.is ∙ ap (λ k. TurnIn k c.in-TurnIn.field-1) (sym c.place-place.ensures.ticket)) c.if-not-finds_room.ensures.told c.fill_cell_from.ensures.told.told c.in-TurnIn.ticket k (sym c.place-place.ensures.ticket) e

pub returns-then-not-finds_room-clause-noted : goal.returns-then-not-finds_room-clause-noted
returns-then-not-finds_room-clause-noted g c = noted_waits_in c.self.inside.table.shared.key c.seat.invariant c.self.invariant (seat_is c.seat.view_is) c.self.view_is c.requires.object c.finds_room.ensures.same c.finds_room.new.token.me (c.in-TurnIn.is ∙ ap (λ k. TurnIn k c.in-TurnIn.field-1) (sym c.place-place.ensures.ticket)) c.if-not-finds_room.ensures.told ∙ noted_is c.seat.view_is

pub returns-clause-noted : goal.returns-clause-noted
returns-clause-noted g c = noted_filled c.self.inside.table.shared.key c.seat.invariant c.self.invariant (seat_is c.seat.view_is) c.self.view_is c.requires.object (c.fill_cell_from.ensures.told.same ∙ c.finds_room.ensures.same) c.fill_cell_from.new.token.me (c.in-TurnIn.is ∙ ap (λ k. TurnIn k c.in-TurnIn.field-1) (sym c.place-place.ensures.ticket)) c.if-not-finds_room.ensures.told c.fill_cell_from.ensures.told.told ∙ noted_is c.seat.view_is
