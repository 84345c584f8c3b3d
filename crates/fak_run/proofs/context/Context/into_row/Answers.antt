use Rattle.fak_run.proofs.Common.{rules}
use Rattle.fak_run.proofs.context.Context.into_row.Goals as goal

pub returns-clause-row : goal.returns-clause-row
returns-clause-row g c = search rules
