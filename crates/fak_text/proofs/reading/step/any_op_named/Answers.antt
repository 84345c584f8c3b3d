use Rattle.fak_text.proofs.Common.{rules}
use Rattle.fak_text.specs.StepText.{any_op_named}
use Rattle.fak_text.proofs.reading.step.any_op_named.Goals as goal

pub returns-in-open : goal.returns-in-open
unfolding any_op_named
returns-in-open c = search rules
