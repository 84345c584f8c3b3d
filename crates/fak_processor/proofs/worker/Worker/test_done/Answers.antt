use Rattle.fak_processor.proofs.Common.{rules}
use Rattle.fak_processor.proofs.worker.Worker.test_done.Goals as goal

pub returns-clause-idle : goal.returns-clause-idle
returns-clause-idle g c = search rules
