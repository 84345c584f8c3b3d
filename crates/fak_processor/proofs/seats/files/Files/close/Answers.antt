use Rattle.std.proofs.lemmas.Grind.{elements}
use Rattle.fak_processor.proofs.Common.{arith}
use Rattle.fak_processor.proofs.seats.files.Files.close.Goals as goal

pub returns-clause-change : goal.returns-clause-change
returns-clause-change c = grind (arith, elements)
