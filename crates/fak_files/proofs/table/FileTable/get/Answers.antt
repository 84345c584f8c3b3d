use Rattle.fak_files.proofs.Common.{◌∙◌, sym, ap}
use Rattle.fak_model.specs.Calls.{object_id}
use Rattle.fak_files.proofs.SeatCalls.{got_of}
use Rattle.fak_files.proofs.table.FileTable.get.Goals as goal

pub returns-clause-call : goal.returns-clause-call
returns-clause-call c =
    let object = ap (λ s. s.seat.object) c.seat.view_is ∙ (c.requires.object ∙ ap (λ t. t.object) (sym c.self.view_is)) in
    let same = ap (λ t. object_id t c.seat.inside.seats) (c.get_field-uses.ensures.told.same ∙ c.get_field-inode.ensures.told.same) in
    got_of _ _ same c.seat.inside.name c.seat.inside.left c.seat.inside.hold _ c.seat.invariant c.self.inside.table.shared.key (sym (ap (λ o. o.seats) object)) _ c.seat.view_is c.access-access.result c.access-access.ensures _ _ _ _ _ c.get_field-inode.ensures.told.told c.get_field-uses.ensures.told.told
