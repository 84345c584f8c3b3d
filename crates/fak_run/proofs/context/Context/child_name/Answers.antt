use Rattle.fak_run.proofs.Common.{rules}
use Rattle.fak_run.proofs.context.Context.child_name.Goals as goal

pub returns : goal.returns
returns g c = search rules
