use Rattle.std.proofs.Common.{◌≡◌}
use Rattle.fak_files.specs.declared.phase.Hold.TheVariants.{Nothing}
use Rattle.fak_files_tests.proofs.calls.read_in_turn.Given as goal

-- the seat belongs to the table, and holds nothing
abbrev pub invariant-loop : goal.invariant-loop
invariant-loop g l = (l.seat.seat.object ≡ l.table.object) × (l.seat.hold ≡ Nothing)
