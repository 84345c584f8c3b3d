use Rattle.fak_queue.proofs.Common.{rules}
use Rattle.fak_queue.proofs.found.NoRoom.refuse.Goals as goal

pub returns-in-Full : goal.returns-in-Full
returns-in-Full g c = search rules

pub returns-in-Shut : goal.returns-in-Shut
returns-in-Shut g c = search rules
