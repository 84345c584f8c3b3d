use Rattle.std.proofs.lemmas.Grind.{elements}
use Rattle.fak_core.proofs.Common.{arith}
use Rattle.fak_core.proofs.queue.marks.item_put.Goals as goal

pub returns : goal.returns
returns c = grind (arith, elements)
