use Rattle.fak_model.proofs.Common.{refl}
use Rattle.fak_model.proofs.cell.round_of.Goals as goal

pub returns : goal.returns
returns c = refl
