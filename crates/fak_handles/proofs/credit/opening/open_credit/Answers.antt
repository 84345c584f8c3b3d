use Rattle.std.proofs.Common.{refl, inl, sym, subst}
use Rattle.std.specs.Arc.{arc_value}
use Rattle.fak_model.specs.Limits.{IsInLargeRange}
use Rattle.fak_count.specs.Opening.{IsCount}
use Rattle.fak_handles.proofs.Seating.{opened_credit}
use Rattle.fak_handles.proofs.credit.opening.open_credit.Goals as goal

pub returns-then-seat_credit-clause-opens : goal.returns-then-seat_credit-clause-opens
returns-then-seat_credit-clause-opens c =
    let len = c.seat_credit.ensures.len in
    inl (refl, subst (λ k. IsInLargeRange (IsCount c.args.start) k c.args.stint) (sym len) c.in-Ok.ensures.0, opened_credit len c.in-Ok.credit (arc_value c.in-Ok-new.credit) c.in-Ok-new.ensures.ok c.in-Ok.ensures.1 c.in-Ok.ensures.2 (c.seat_credit.ensures.seated c.if-seat_credit.true))
