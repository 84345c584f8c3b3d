use Rattle.fak_model.proofs.Common.{arith, common_steps}
use Rattle.fak_model.proofs.checker.judge.may_follow.Goals as goal

pub returns-then-oldest : goal.returns-then-oldest
returns-then-oldest c = grind (arith, common_steps)

pub returns-else-oldest : goal.returns-else-oldest
returns-else-oldest c = grind (arith, common_steps)
