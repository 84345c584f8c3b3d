use Rattle.fak_core.proofs.Common.{rules}
use Rattle.fak_core.proofs.room.moves.next_move.Goals as goal

pub returns-in-Adding : goal.returns-in-Adding
returns-in-Adding c = search rules
