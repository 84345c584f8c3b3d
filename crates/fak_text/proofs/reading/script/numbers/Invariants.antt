use Rattle.fak_text.proofs.Common.{each_from, number_from, ◌≡◌, drop, items_view}
use Rattle.fak_text.proofs.Elements.{with_front}
use Rattle.fak_text.proofs.reading.script.numbers.Given as goal

abbrev pub invariant-loop-i : goal.invariant-loop-i
invariant-loop-i l = with_front l.numbers.items (each_from (number_from l.field l.bound) l.i (items_view (drop l.i l.values))) ≡ each_from (number_from l.field l.bound) 0 (items_view l.values)
