use Rattle.fak_processor.proofs.Common.{rules}
use Rattle.fak_processor.proofs.worker.turn.Turn.is_over.Goals as goal

pub returns-else-self-clause-over : goal.returns-else-self-clause-over
returns-else-self-clause-over g c = search rules
