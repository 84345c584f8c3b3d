use Rattle.fak_core.proofs.Common.{reached}
use Rattle.fak_core.proofs.QueueReached.{kept_reached}
use Rattle.fak_core.proofs.QueueLoads.{draws_item}
use Rattle.fak_core.proofs.laws.queue.a_granted_deletion_draws_an_item.Goals as goal

pub returns : goal.returns
returns g c = λ size schedule s z. draws_item size (reached size schedule) s (kept_reached size schedule z)
