use Rattle.std.proofs.Common.{refl, inl, sym, subst}
use Rattle.std.specs.Arc.{arc_value}
use Rattle.fak_model.specs.Limits.{IsInLargeRange}
use Rattle.fak_count.specs.Opening.{IsCount}
use Rattle.fak_handles.proofs.Seating.{opened_room}
use Rattle.fak_handles.proofs.room.opening.open_room.Goals as goal

pub returns-then-seat_room-clause-opens : goal.returns-then-seat_room-clause-opens
returns-then-seat_room-clause-opens c =
    let len = c.seat_room.ensures.len in
    inl (refl, subst (λ k. IsInLargeRange (IsCount c.args.bound) k c.args.stint) (sym len) c.in-Ok.ensures.0, opened_room len c.in-Ok.room (arc_value c.in-Ok-new.room) c.in-Ok-new.ensures.ok c.in-Ok.ensures.1 c.in-Ok.ensures.2 (c.seat_room.ensures.seated c.if-seat_room.true))
