use Rattle.fak_model.proofs.Common.{rules}
use Rattle.fak_model.proofs.checker.judge.is_oldest.Goals as goal

pub returns-in-Some : goal.returns-in-Some
returns-in-Some c = search rules

pub returns-in-None : goal.returns-in-None
returns-in-None c = search rules
