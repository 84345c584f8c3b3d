use Rattle.std.proofs.Common.{rules, ◌∙◌, arith, [], ◌∷◌}
use Rattle.std.proofs.lemmas.Int.{ints}
use Rattle.fak_core.specs.QueueBlocks.{AreApart}
use Rattle.fak_callers.proofs.blocks.two_look_for_items.Goals as goal

two_apart : AreApart (1 ∷ 2 ∷ [])
two_apart = search rules

pub returns : goal.returns
returns g c = record {
  stock = λ st one. let all = c.one_load_tests_several_deletions.ensures.stock 4 st ((1, tt) ∷ (2, tt) ∷ []) two_apart (omega (arith, ints, one)) in (all.lower_is ∙ one, all.past_is, all.stand.0, all.stand.1.0);
  empty = λ st none. let all = c.one_load_tests_several_deletions.ensures.empty 4 st ((1, tt) ∷ (2, tt) ∷ []) two_apart (omega (arith, ints, none)) in (all.past_is, all.stand.0, all.stand.1.0);
}
