use Rattle.fak_count.proofs.Common.{rules}
use Rattle.fak_count.proofs.rooms.tally.RoomTally.of.Goals as goal

pub invariant_of-result : goal.invariant_of-result
invariant_of-result c = search rules
