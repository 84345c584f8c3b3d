use Rattle.fak_core.proofs.Common.{rules}
use Rattle.fak_core.proofs.room.moves.add_move.Goals as goal

pub returns : goal.returns
returns c = search rules
