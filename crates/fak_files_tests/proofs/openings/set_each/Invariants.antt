use Rattle.std.proofs.Common.{◌≡◌}
use Rattle.fak_files.specs.declared.phase.Hold.TheVariants.{Writing}
use Rattle.fak_files_tests.proofs.openings.set_each.Given as goal

-- the seat belongs to the table, and holds as a writer
abbrev pub invariant-loop-i : goal.invariant-loop-i
invariant-loop-i l = (l.seat.seat.object ≡ l.table.object) × (l.seat.hold ≡ Writing)
