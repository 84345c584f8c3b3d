use Rattle.fak_text.proofs.Common.{each_from, event_from, ◌≡◌, drop, items_view}
use Rattle.fak_text.proofs.Elements.{with_front}
use Rattle.fak_text.proofs.reading.schedule.events_from.Given as goal

abbrev pub invariant-loop-i : goal.invariant-loop-i
invariant-loop-i l = with_front l.events.items (each_from (event_from l.object) l.i (items_view (drop l.i l.values))) ≡ each_from (event_from l.object) 0 (items_view l.values)
