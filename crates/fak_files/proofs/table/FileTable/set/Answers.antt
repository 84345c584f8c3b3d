use Rattle.fak_files.proofs.Common.{◌∙◌, sym, ap}
use Rattle.fak_model.specs.Calls.{object_id}
use Rattle.fak_files.proofs.SeatCalls.{set_of, seat_set}
use Rattle.fak_files.proofs.table.FileTable.set.Goals as goal

pub invariant_of-seat : goal.invariant_of-seat
invariant_of-seat c =
    let object = ap (λ s. s.seat.object) c.seat.view_is ∙ (c.requires.object ∙ ap (λ t. t.object) (sym c.self.view_is)) in
    let same = ap (λ t. object_id t c.seat.inside.seats) c.set_field.ensures.told.same in
    let writing = ap (λ s. s.hold) c.seat.view_is ∙ c.requires.held in
    seat_set _ _ same c.seat.inside.name c.seat.inside.left c.seat.inside.hold _ c.seat.invariant c.self.inside.table.shared.key (sym (ap (λ o. o.seats) object)) _ c.seat.view_is writing _ _ _ _ c.set_field.ensures.told.told

pub returns-clause-call : goal.returns-clause-call
returns-clause-call c =
    let object = ap (λ s. s.seat.object) c.seat.view_is ∙ (c.requires.object ∙ ap (λ t. t.object) (sym c.self.view_is)) in
    let same = ap (λ t. object_id t c.seat.inside.seats) c.set_field.ensures.told.same in
    set_of _ _ same c.seat.inside.name c.seat.inside.left c.seat.inside.hold _ c.seat.invariant c.self.inside.table.shared.key (sym (ap (λ o. o.seats) object)) _ c.seat.view_is _ _ _ _ c.set_field.ensures.told.told
