use Rattle.fak_text.proofs.Common.{rules}
use Rattle.fak_text.proofs.reading.step.lone_step.Goals as goal

pub drop-step-requires : goal.drop-step-requires
drop-step-requires c = search rules
