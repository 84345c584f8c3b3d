use Rattle.fak_kernel.proofs.Common.{rules}
use Rattle.fak_kernel.proofs.ending.reporting.outcome_of_sleepers.Goals as goal

pub returns-else-has_shutdown-3 : goal.returns-else-has_shutdown-3
returns-else-has_shutdown-3 g c = search rules
