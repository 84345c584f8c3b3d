use Rattle.fak_core.proofs.Common.{rules}
use Rattle.fak_core.proofs.queue.moves.set_full.Goals as goal

pub returns : goal.returns
returns c = search rules
