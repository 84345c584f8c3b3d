use Rattle.fak_files.proofs.Common.{rules, ◌∙◌, sym, ap}
use Rattle.fak_model.specs.Calls.{object_id}
use Rattle.fak_files.proofs.SeatCalls.{ended_of, seat_ended}
use Rattle.fak_files.proofs.table.FileTable.end.Goals as goal

pub invariant_of-seat : goal.invariant_of-seat
invariant_of-seat c =
    let object = ap (λ s. s.seat.object) c.seat.view_is ∙ (c.requires.object ∙ ap (λ t. t.object) (sym c.self.view_is)) in
    let same = ap (λ t. object_id t c.seat.inside.seats) c.give.ensures.told.same in
    seat_ended _ _ same c.seat.inside.name c.seat.inside.left c.seat.inside.hold _ c.seat.invariant c.self.inside.table.shared.key (sym (ap (λ o. o.seats) object)) _ c.seat.view_is c.access-access.result c.access-access.ensures _ c.give.ensures.told.told

pub returns-clause-call : goal.returns-clause-call
returns-clause-call c =
    let object = ap (λ s. s.seat.object) c.seat.view_is ∙ (c.requires.object ∙ ap (λ t. t.object) (sym c.self.view_is)) in
    let same = ap (λ t. object_id t c.seat.inside.seats) c.give.ensures.told.same in
    ended_of _ _ same c.seat.inside.name c.seat.inside.left c.seat.inside.hold _ c.seat.invariant c.self.inside.table.shared.key (sym (ap (λ o. o.seats) object)) _ c.seat.view_is _ c.give.ensures.told.told

pub give-requires-clause-amount : goal.give-requires-clause-amount
give-requires-clause-amount c = search rules
