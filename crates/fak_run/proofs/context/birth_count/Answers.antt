use Rattle.fak_run.proofs.Common.{rules}
use Rattle.fak_run.proofs.context.birth_count.Goals as goal

pub returns-in-Spawned-clause-value : goal.returns-in-Spawned-clause-value
returns-in-Spawned-clause-value c = search rules
