use Rattle.fak_run.proofs.Common.{string_bytes, ◌≡◌, ◌++◌, map, take, flat_map, text_of_row, row_of}
use Rattle.fak_run.proofs.text.add_rows.Given as goal

abbrev pub invariant-loop-row : goal.invariant-loop-row
invariant-loop-row l = string_bytes l.text ≡ string_bytes l.fn.text ++ flat_map text_of_row (map row_of (take l.row-index l.rows))
