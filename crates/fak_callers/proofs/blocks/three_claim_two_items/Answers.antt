use Rattle.std.proofs.Common.{rules, arith, inl, inr, [], ◌∷◌}
use Rattle.std.proofs.lemmas.Int.{ints}
use Rattle.fak_core.specs.QueueBlocks.{AreApart}
use Rattle.fak_callers.proofs.blocks.three_claim_two_items.Goals as goal

three_apart : AreApart (1 ∷ 2 ∷ 5 ∷ [])
three_apart = search rules

pub returns : goal.returns
returns g c = record {
  two = λ st two.
      let all = c.one_subtraction_claims_several_deletions.ensures.first 4 2 st ((1, tt) ∷ (2, tt) ∷ (5, tt) ∷ []) three_apart two in
      (all.past_is, all.stand.0, all.stand.1.0, all.stand.1.1.0, all.others 7 (λ i. elim i [ inl e ↦ omega (arith, e) | inr (inl e) ↦ omega (arith, e) | inr (inr (inl e)) ↦ omega (arith, e) | inr (inr (inr z)) ↦ z ]));
  none = λ st none. let all = c.one_subtraction_claims_several_deletions.ensures.none 4 st ((1, tt) ∷ (2, tt) ∷ (5, tt) ∷ []) three_apart (omega (arith, ints, none)) in (all.past_is, all.stand.0);
}
