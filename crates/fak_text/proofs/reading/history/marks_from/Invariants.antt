use Rattle.fak_text.proofs.Common.{each_from, mark_from, ◌≡◌, drop, items_view}
use Rattle.fak_text.proofs.Elements.{with_front}
use Rattle.fak_text.proofs.reading.history.marks_from.Given as goal

abbrev pub invariant-loop-i : goal.invariant-loop-i
invariant-loop-i l = with_front l.marks.items (each_from mark_from l.i (items_view (drop l.i l.values))) ≡ each_from mark_from 0 (items_view l.values)
