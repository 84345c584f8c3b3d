use Rattle.fak_core.proofs.Common.{rules}
use Rattle.fak_core.proofs.queue.moves.turn_in.Goals as goal

pub returns-then-may_fill : goal.returns-then-may_fill
returns-then-may_fill c = search rules
