use Rattle.std.specs.Vec.{vec_capacity}
use Rattle.std.specs.Vec.Iter.{into_iter_items}
use Rattle.fak_queue.proofs.BundleSharing.{Dealt}
use Rattle.fak_queue.proofs.Common.{◌≡◌, ◌≤◌, length}
use Rattle.fak_queue.proofs.bundling.deal_out.Given as goal

-- the seats of the names before this one were dealt
abbrev pub invariant-loop-name : goal.invariant-loop-name
invariant-loop-name g l = record {
  can_next : (goal.iterator-loop-name g).can_next l.name-iterator;
  is_finite : (goal.iterator-loop-name g).is_finite l.name-iterator;
  table : l.token.table_id ≡ l.words.table_id;
  others : l.others ≡ length (into_iter_items l.name-iterator);
  room : length l.fn.bundle.names ≤ vec_capacity l.dealt;
  dealt : Dealt l.fn.bundle l.bundle-inside.names.items l.bundle-inside.left l.bundle-inside.token.me.0.seen (into_iter_items l.name-iterator) l.left l.dealt.items l.token.me;
}
