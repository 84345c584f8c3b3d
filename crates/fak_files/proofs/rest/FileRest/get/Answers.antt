use Rattle.std.proofs.lemmas.Grind.{elements}
use Rattle.fak_files.proofs.Common.{arith}
use Rattle.fak_files.proofs.rest.FileRest.get.Goals as goal

pub returns : goal.returns
returns c = grind (arith, elements)
