use Rattle.fak_run.proofs.Common.{told_rows, row_of, ◌≡◌, ◌++◌, map, into_iter_items}
use Rattle.fak_run.proofs.told_report.told_to_rows.Given as goal

-- the rows so far, followed by those still to come
abbrev pub invariant-loop-row : goal.invariant-loop-row
invariant-loop-row l = map row_of l.full.items ++ told_rows l.script (map row_of (into_iter_items l.row-iterator)) ≡ told_rows l.script (map row_of l.fn.rows.items)
