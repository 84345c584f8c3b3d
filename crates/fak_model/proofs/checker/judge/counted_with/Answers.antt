use Rattle.fak_model.proofs.Common.{rules}
use Rattle.fak_model.proofs.checker.judge.counted_with.Goals as goal

pub returns-in_default : goal.returns-in_default
returns-in_default c = search rules
