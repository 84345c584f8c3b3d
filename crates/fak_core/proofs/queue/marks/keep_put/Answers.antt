use Rattle.std.proofs.lemmas.Grind.{common_steps}
use Rattle.fak_core.proofs.Common.{arith}
use Rattle.fak_core.proofs.queue.marks.keep_put.Goals as goal

pub returns-in-Err-clause-err_items : goal.returns-in-Err-clause-err_items
returns-in-Err-clause-err_items c = grind (arith, common_steps)
