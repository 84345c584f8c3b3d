use Rattle.fak_core.proofs.Common.{rules}
use Rattle.fak_core.proofs.queue.moves.turn_out.Goals as goal

pub returns-else-may_take : goal.returns-else-may_take
returns-else-may_take c = search rules
