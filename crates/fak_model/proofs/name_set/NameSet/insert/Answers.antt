use Rattle.fak_model.proofs.Common.{rules}
use Rattle.fak_model.proofs.name_set.NameSet.insert.Goals as goal

pub returns : goal.returns
returns c = search rules
