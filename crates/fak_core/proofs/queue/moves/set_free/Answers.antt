use Rattle.fak_core.proofs.Common.{rules}
use Rattle.fak_core.proofs.queue.moves.set_free.Goals as goal

pub overflow_add-turn : goal.overflow_add-turn
overflow_add-turn c = search rules

pub returns : goal.returns
returns c = search rules
