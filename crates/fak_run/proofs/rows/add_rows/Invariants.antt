use Rattle.fak_run.proofs.Common.{rows_with, told_rows, row_of, ◌≡◌, ◌++◌, map, into_iter_items}
use Rattle.fak_run.proofs.rows.add_rows.Given as goal

abbrev pub invariant-loop-context : goal.invariant-loop-context
invariant-loop-context g l = told_rows g.K.Run.script (map row_of l.rows.items) ++ rows_with l.outcome (into_iter_items l.context-iterator) ≡ told_rows g.K.Run.script (map row_of l.fn.rows.items) ++ rows_with l.outcome l.fn.contexts.items
