use Rattle.fak_files.proofs.Common.{◌≡◌, Nothing}
use Rattle.fak_files.proofs.Waits.{IsTrying}
use Rattle.fak_files.proofs.table.FileTable.wait_hold.Given as goal

-- the tries so far were refused
abbrev pub invariant-loop : goal.invariant-loop
invariant-loop g l = IsTrying l.access l.fn.seat l.seat × (l.seat.seat.object ≡ l.self.object) × (l.seat.hold ≡ Nothing)
