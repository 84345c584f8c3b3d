use Rattle.std.proofs.Common.{rules, ◌∙◌, ap, arith, inl, inr, pos, ◌+ℤ◌, [], ◌∷◌}
use Rattle.std.proofs.lemmas.Int.{ints}
use Rattle.fak_core.specs.QueueBlocks.{AreApart}
use Rattle.fak_callers.proofs.blocks.three_claim_one_place.Goals as goal

three_apart : AreApart (1 ∷ 2 ∷ 5 ∷ [])
three_apart = search rules

pub returns : goal.returns
returns g c = record {
  one = λ st x y z opn three.
      let all = c.one_add_claims_several_insertions.ensures.first 4 3 st ((1, x) ∷ (2, y) ∷ (5, z) ∷ []) three_apart opn three in
      (all.upper_is ∙ ap (λ u. u +ℤ pos 3) three, all.past_is, all.stand.0, all.stand.1.0, all.stand.1.1.0, all.others 7 (λ i. elim i [ inl e ↦ omega (arith, e) | inr (inl e) ↦ omega (arith, e) | inr (inr (inl e)) ↦ omega (arith, e) | inr (inr (inr z)) ↦ z ]));
  two = λ st x y z opn two.
      let all = c.one_add_claims_several_insertions.ensures.some 4 st ((1, x) ∷ (2, y) ∷ []) ((5, z) ∷ []) three_apart (record { opened = opn; room = inr (omega (arith, ints, two)); full = inr (omega (arith, ints, two)) }) in
      (all.upper_is ∙ ap (λ u. u +ℤ pos 3) two, all.past_is, all.stand.1.0, all.stand.1.1.0);
  late = λ st x y z shut three.
      let all = c.one_add_claims_several_insertions.ensures.late 4 st ((1, x) ∷ (2, y) ∷ (5, z) ∷ []) three_apart shut in
      (all.upper_is ∙ ap (λ u. u +ℤ pos 3) three, all.past_is, all.stand.0);
}
