use Rattle.fak_model.proofs.Common.{rules}
use Rattle.fak_model.proofs.checker.judge.is_next.Goals as goal

pub returns-in-Putting : goal.returns-in-Putting
returns-in-Putting c = search rules
