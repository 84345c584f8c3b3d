use Rattle.std.proofs.Common.{refl, inl, sym, subst}
use Rattle.std.specs.Arc.{arc_value}
use Rattle.fak_model.specs.Limits.{IsInLargeRange}
use Rattle.fak_files.specs.Opening.{IsNumberOfEntries}
use Rattle.fak_handles.proofs.Seating.{opened_table}
use Rattle.fak_handles.proofs.files.opening.open_table.Goals as goal

pub returns-then-seat_table-clause-opens : goal.returns-then-seat_table-clause-opens
returns-then-seat_table-clause-opens c =
    let len = c.seat_table.ensures.len in
    inl (refl, subst (λ k. IsInLargeRange (IsNumberOfEntries c.args.entries) k c.args.stint) (sym len) c.in-Ok.ensures.0, opened_table len c.in-Ok.table (arc_value c.in-Ok-new.table) c.in-Ok-new.ensures.ok c.in-Ok.ensures.1 c.in-Ok.ensures.2 (c.seat_table.ensures.seated c.if-seat_table.true))
