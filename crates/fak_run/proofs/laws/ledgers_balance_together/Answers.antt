use Rattle.fak_run.proofs.Joining.{balanced-joined}
use Rattle.fak_run.proofs.laws.ledgers_balance_together.Goals as goal

pub returns : goal.returns
returns c = balanced-joined
