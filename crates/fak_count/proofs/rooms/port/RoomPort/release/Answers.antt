use Rattle.fak_count.proofs.Common.{rules}
use Rattle.fak_count.proofs.rooms.port.RoomPort.release.Goals as goal

pub returns-clause-call : goal.returns-clause-call
returns-clause-call c = search rules

pub release-requires-clause-holds : goal.release-requires-clause-holds
release-requires-clause-holds c = search rules
