use Rattle.std.specs.Vec.Iter.{into_iter_items}
use Rattle.fak_queue.proofs.Gathering.{GatheredOf}
use Rattle.fak_queue.proofs.Common.{◌≡◌}
use Rattle.fak_queue.proofs.bundling.gathered.Given as goal

-- the seats before this one were joined
abbrev pub invariant-loop-seat : goal.invariant-loop-seat
invariant-loop-seat g l = record {
  can_next : (goal.iterator-loop-seat g).can_next l.seat-iterator;
  is_finite : (goal.iterator-loop-seat g).is_finite l.seat-iterator;
  table : l.token.table_id ≡ l.words.table_id;
  joined : GatheredOf l.words.table_id.slots l.words.key.seats l.words.table_id (into_iter_items l.seat-iterator) l.fn.seats.items l.left l.token.me;
}
