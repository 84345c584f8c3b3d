use Rattle.fak_core.proofs.InsertionBlocks.{adds, first_added, adds_late}
use Rattle.fak_core.proofs.laws.blocks.one_add_claims_several_insertions.Goals as goal

pub returns : goal.returns
returns g c = record { some = adds; first = λ size u st seats. first_added size st u seats; late = adds_late }
