use Rattle.fak_model.proofs.Common.{rules}
use Rattle.fak_model.proofs.name_set.NameSet.has_all.Goals as goal

pub loop-name-init : goal.loop-name-init
loop-name-init c = search rules
