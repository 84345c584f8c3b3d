use Rattle.std.proofs.Common.{◌≡◌}
use Rattle.std.specs.List.{All}
use Rattle.fak_files.specs.Calls.{IsFreeSeatOf}
use Rattle.fak_files_tests.proofs.large.each_seat_writes.Given as goal

-- the seats that are left belong to the table and hold nothing, and the tally belongs to it
abbrev pub invariant-loop-before : goal.invariant-loop-before
invariant-loop-before g l = All (IsFreeSeatOf l.table.object) l.seats.items × (l.tally.object ≡ l.table.object)
