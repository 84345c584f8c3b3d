use Rattle.fak_files.specs.Calls.{IsFreeSeatOf}
use Rattle.fak_files_tests.proofs.calls.hold_often.Given as goal

-- the seat belongs to this table, and holds nothing
abbrev pub invariant-loop : goal.invariant-loop
invariant-loop l = IsFreeSeatOf l.table.object l.seat
