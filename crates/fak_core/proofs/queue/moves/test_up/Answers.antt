use Rattle.fak_core.proofs.Common.{rules}
use Rattle.fak_core.proofs.queue.moves.test_up.Goals as goal

pub returns-then-has_room : goal.returns-then-has_room
returns-then-has_room c = search rules
