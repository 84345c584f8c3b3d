use Rattle.fak_core.proofs.Common.{rules}
use Rattle.fak_core.proofs.queue.moves.store_item.Goals as goal

pub returns : goal.returns
returns c = search rules
