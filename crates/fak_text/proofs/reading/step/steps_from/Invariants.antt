use Rattle.fak_text.proofs.Common.{step_from, each_from, steps_view, ◌≡◌, ◌+◌, drop, vec_len, items_view}
use Rattle.fak_text.proofs.Elements.{with_front}
use Rattle.fak_text.proofs.reading.step.steps_from.Given as goal

abbrev pub invariant-loop-value : goal.invariant-loop-value
invariant-loop-value l = record {
  so_far : with_front (steps_view l.steps.items) (each_from (step_from l.limits) l.index (items_view (drop l.value-index l.values))) ≡ each_from (step_from l.limits) l.first (items_view l.values);
  at : l.index ≡ l.first + l.value-index;
  size : vec_len l.steps ≡ l.value-index;
}
