use Rattle.fak_processor.proofs.Common.{◌≡◌, ◌++◌, length, map, into_iter_items}
use Rattle.fak_processor.specs.Opened.{zipped}
use Rattle.fak_processor.proofs.undealt.zip_seats.Given as goal

-- what is zipped so far, and what will be
abbrev pub invariant-loop-ready : goal.invariant-loop-ready
invariant-loop-ready g l = record {
  zips : l.all.items ++ zipped l.entries (into_iter_items l.ready-iterator) l.left.free.rest.items l.left.births.rest.items l.left.busy.rest.items (map (λ row. row.items) l.left.rows.rest.items) l.left.files.rest.items
      ≡ zipped l.entries l.fn.ready.items l.fn.left.free.rest.items l.fn.left.births.rest.items l.fn.left.busy.rest.items (map (λ row. row.items) l.fn.left.rows.rest.items) l.fn.left.files.rest.items;
  free : length l.left.free.rest.items ≡ length (into_iter_items l.ready-iterator);
  births : length l.left.births.rest.items ≡ length (into_iter_items l.ready-iterator);
  busy : length l.left.busy.rest.items ≡ length (into_iter_items l.ready-iterator);
  rows : length l.left.rows.rest.items ≡ length (into_iter_items l.ready-iterator);
  files : length l.left.files.rest.items ≡ length (into_iter_items l.ready-iterator);
}
