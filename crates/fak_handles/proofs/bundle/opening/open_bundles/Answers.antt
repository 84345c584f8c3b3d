use Rattle.std.proofs.Common.{◌≡◌, ◌+◌, ◌*◌, refl, inl, subst, ◌∙◌, length}
use Rattle.std.specs.Arc.{arc_value}
use Rattle.fak_model.specs.Limits.{IsInLargeRange}
use Rattle.fak_queue.specs.Refusals.{IsLargeSize}
use Rattle.fak_handles.proofs.BundleSeating.{opened_bundles}
use Rattle.fak_handles.proofs.bundle.opening.open_bundles.Goals as goal

pub returns-then-seat_all-clause-opens : goal.returns-then-seat_all-clause-opens
returns-then-seat_all-clause-opens c =
    let seats = c.seat_all.ensures.len in
    let bundles = c.seat_all.ensures.bundles in
    let made = c.in-Ok.ensures in
    let n : length c.clear.new.handles + length c.clear-2.new.handles * c.args.width ≡ length c.seat_all.new.seats + length c.seat_all.new.bundles * c.args.width = cc in
    inl (
      refl,
      subst (λ k. IsInLargeRange (IsLargeSize c.args.size) k c.args.stint) n made.0,
      opened_bundles c.in-Ok.queue (arc_value c.in-Ok-new.queue) c.in-Ok-new.ensures.ok made.1 (made.2 ∙ n) seats bundles (c.seat_all.ensures.seated c.if-seat_all.true) (c.seat_all.ensures.bundled c.if-seat_all.true),
    )
