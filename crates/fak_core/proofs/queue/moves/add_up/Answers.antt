use Rattle.fak_core.proofs.Common.{rules}
use Rattle.fak_core.proofs.queue.moves.add_up.Goals as goal

pub returns-then-shut : goal.returns-then-shut
returns-then-shut c = search rules

pub returns-then-still_has_room : goal.returns-then-still_has_room
returns-then-still_has_room c = search rules

pub returns-else-still_has_room : goal.returns-else-still_has_room
returns-else-still_has_room c = search rules
