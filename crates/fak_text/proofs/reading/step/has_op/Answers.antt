use Rattle.fak_text.proofs.Common.{rules}
use Rattle.fak_text.proofs.reading.step.has_op.Goals as goal

pub returns-in-Shutdown : goal.returns-in-Shutdown
returns-in-Shutdown c = search rules
