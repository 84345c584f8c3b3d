use Rattle.fak_text.proofs.Common.{◌≡◌, ◌*◌, ◌≤◌, drop, items_view, programs_from, programs_of}
use Rattle.fak_text.proofs.Elements.{with_front}
use Rattle.fak_text.proofs.reading.step.programs_from.Given as goal

abbrev pub invariant-loop-value : goal.invariant-loop-value
invariant-loop-value l = record {
  so_far : with_front (programs_of l.programs.items) (programs_from l.limits l.index (items_view (drop l.value-index l.values))) ≡ programs_from l.limits 0 (items_view l.values);
  at : l.index ≤ 1000 * l.value-index;
}
