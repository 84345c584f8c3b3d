use Rattle.std.proofs.Common.{rules}
use Rattle.fak_handles.proofs.room.seat.RoomDesk.release.Goals as goal

pub release-requires-clause-holds : goal.release-requires-clause-holds
release-requires-clause-holds c = search rules
