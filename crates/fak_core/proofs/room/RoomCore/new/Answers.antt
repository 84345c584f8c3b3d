use Rattle.fak_core.proofs.Common.{rules}
use Rattle.fak_core.proofs.room.RoomCore.new.Goals as goal

pub returns-then-seats-eq0-clause-size : goal.returns-then-seats-eq0-clause-size
returns-then-seats-eq0-clause-size c = search rules

pub returns-then-seats-eq0-clause-seats : goal.returns-then-seats-eq0-clause-seats
returns-then-seats-eq0-clause-seats c = search rules
