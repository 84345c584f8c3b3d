use Rattle.std.proofs.Common.{rules, ◌∙◌, ap, pos, ◌+ℤ◌, ◌-ℤ◌, ◌+◌, [], ◌∷◌}
use Rattle.fak_core.specs.declared.queue.phase.Phase.TheVariants.{TurnIn}
use Rattle.fak_core.specs.QueueBlocks.{AreApart}
use Rattle.fak_callers.proofs.blocks.two_draw_in_a_row.Goals as goal

first_apart : AreApart (1 ∷ 2 ∷ [])
first_apart = search rules

last_apart : AreApart (2 ∷ 5 ∷ [])
last_apart = search rules

pub returns : goal.returns
returns g c = record {
  backs = λ st x y six. let all = c.one_add_moves_several_insertions_on.ensures.backs 4 st ((2, x) ∷ (5, y) ∷ []) last_apart in (all.upper_is ∙ ap (λ u. u -ℤ pos 2) six, all.past_is, all.stand.0, all.stand.1.0);
  draws = λ st x y seven.
      let all = c.one_add_moves_several_insertions_on.ensures.draws 4 st ((1, x) ∷ (2, y) ∷ []) first_apart in
      (all.draws_in_is ∙ ap (λ k. k + 2) seven, all.past_is, all.stand.0 ∙ ap (λ k. TurnIn k x) seven, all.stand.1.0 ∙ ap (λ k. TurnIn (k + 1) y) seven);
  ends = λ st one. let all = c.one_add_moves_several_insertions_on.ensures.ends 4 st ((1, 7) ∷ (2, 8) ∷ []) first_apart in (all.lower_is ∙ ap (λ u. u +ℤ pos 2) one, all.past_is, all.stand.0, all.stand.1.0);
}
