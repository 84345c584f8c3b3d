use Rattle.std.proofs.Common.{◌≡◌, ◌+◌, ◌++◌, suc, ap, sym, subst, arith, ◌∙◌, length-set, slice_index_or}
use Rattle.std.specs.Prelude.{take, drop, slice_set}
use Rattle.std.proofs.lemmas.List.{drop-drop, get_or-drop}
use Rattle.fak_handles.proofs.Bursting.{copied_next}
use Rattle.fak_handles.proofs.bundle.copying.hand_out.Goals as goal

pub loop-i-preserved : goal.loop-i-preserved
loop-i-preserved c =
    let held = c.args.held.now in
    let was = c.args.items.now in
    let i = c.loop-i.i in
    let y = c.in-Some.item in
    let low = c.loop-i-test.true in
    let len = c.len.ensures in
    let long = held.ok.0 in
    let first = c.least-count.ensures.first in
    let second = c.least-count.ensures.second in
    let one : suc i ≡ i + 1 = omega arith in
    let none : i + 0 ≡ i = omega arith in
    let at : slice_index_or held.items i y ≡ y = sym (get_or-drop i held.items 0 y ∙ ap (λ k. slice_index_or held.items k y) none) ∙ (ap (λ l. slice_index_or l 0 y) (sym c.loop-i.invariant.2) ∙ sym c.in-Some.ensures.lookup) in (
      length-set c.loop-i.items i y ∙ c.loop-i.invariant.0,
      ap (λ l. slice_set l i y) c.loop-i.invariant.1
          ∙ subst (λ k. slice_set (take i held.items ++ drop i was) i y ≡ take k held.items ++ drop k was) one
          (copied_next held.items was i y y (omega (arith, low, len, long, first)) (omega (arith, low, second)) at),
      c.in-Some.ensures.rest ∙ (ap (drop 1) c.loop-i.invariant.2 ∙ drop-drop 1 i held.items),
      c.in-Some.ensures.capacity ∙ c.loop-i.invariant.3,
    )
