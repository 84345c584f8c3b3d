use Rattle.fak_core.proofs.Common.{reached}
use Rattle.fak_core.proofs.QueueReached.{kept_reached}
use Rattle.fak_core.proofs.QueueHolders.{few_drawn}
use Rattle.fak_core.proofs.laws.progress.few_seats_have_drawn.Goals as goal

pub returns : goal.returns
returns g c = λ size n schedule z. few_drawn size n (reached size schedule) (kept_reached size schedule z)
