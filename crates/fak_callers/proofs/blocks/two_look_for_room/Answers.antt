use Rattle.std.proofs.Common.{rules, ◌∙◌, arith, [], ◌∷◌}
use Rattle.std.proofs.lemmas.Int.{ints}
use Rattle.fak_core.specs.QueueBlocks.{AreApart}
use Rattle.fak_callers.proofs.blocks.two_look_for_room.Goals as goal

two_apart : AreApart (1 ∷ 2 ∷ [])
two_apart = search rules

pub returns : goal.returns
returns g c = record {
  room = λ st x y opn three. let all = c.one_load_tests_several_insertions.ensures.room 4 st ((1, x) ∷ (2, y) ∷ []) two_apart opn (omega (arith, ints, three)) in (all.upper_is ∙ three, all.past_is, all.stand.0, all.stand.1.0);
  full = λ st x y opn four. let all = c.one_load_tests_several_insertions.ensures.full 4 st ((1, x) ∷ (2, y) ∷ []) two_apart opn (omega (arith, ints, four)) in (all.past_is, all.stand.0, all.stand.1.0);
  shut = λ st x y shut. let all = c.one_load_tests_several_insertions.ensures.shut 4 st ((1, x) ∷ (2, y) ∷ []) two_apart shut in (all.past_is, all.stand.0, all.stand.1.0);
}
