use Rattle.std.proofs.Common.{refl, inl, sym, subst}
use Rattle.std.specs.Arc.{arc_value}
use Rattle.fak_model.specs.Limits.{IsInLargeRange}
use Rattle.fak_sem.specs.Opening.{AreLargeSizes}
use Rattle.fak_handles.proofs.Seating.{opened_semaphore}
use Rattle.fak_handles.proofs.semaphore.opening.open_semaphore.Goals as goal

pub returns-then-seat_semaphore-clause-opens : goal.returns-then-seat_semaphore-clause-opens
returns-then-seat_semaphore-clause-opens c =
    let len = c.seat_semaphore.ensures.len in
    inl (refl, subst (λ k. IsInLargeRange (AreLargeSizes c.args.start c.args.size) k c.args.stint) (sym len) c.in-Ok.ensures.0, opened_semaphore len c.in-Ok.semaphore (arc_value c.in-Ok-new.semaphore) c.in-Ok-new.ensures.ok c.in-Ok.ensures.1 c.in-Ok.ensures.2 c.in-Ok.ensures.3 (c.seat_semaphore.ensures.seated c.if-seat_semaphore.true))
