use Rattle.std.proofs.Common.{refl, inl, sym, subst}
use Rattle.std.specs.Arc.{arc_value}
use Rattle.fak_model.specs.Limits.{IsInLargeRange}
use Rattle.fak_queue.specs.Refusals.{IsLargeSize}
use Rattle.fak_handles.proofs.Seating.{opened_queue}
use Rattle.fak_handles.proofs.queue.opening.open_queue.Goals as goal

pub returns-then-seat_queue-clause-opens : goal.returns-then-seat_queue-clause-opens
returns-then-seat_queue-clause-opens c =
    let len = c.seat_queue.ensures.len in
    inl (refl, subst (λ k. IsInLargeRange (IsLargeSize c.args.size) k c.args.stint) (sym len) c.in-Ok.ensures.0, opened_queue len c.in-Ok.queue (arc_value c.in-Ok-new.queue) c.in-Ok-new.ensures.ok c.in-Ok.ensures.1 c.in-Ok.ensures.2 (c.seat_queue.ensures.seated c.if-seat_queue.true))
