use Rattle.std.proofs.lemmas.Grind.{common_steps}
use Rattle.fak_run.proofs.Common.{arith}
use Rattle.fak_run.proofs.text.add_row.Goals as goal

pub returns : goal.returns
returns c = grind (arith, common_steps)
