use Rattle.std.proofs.Common.{◌≡◌}
use Rattle.fak_files_tests.proofs.openings.shows_each.Given as goal

-- the seat belongs to the table, and holds as it did before
abbrev pub invariant-loop-i : goal.invariant-loop-i
invariant-loop-i l = (l.seat.seat.object ≡ l.table.object) × (l.seat.hold ≡ l.initial.seat.hold)
