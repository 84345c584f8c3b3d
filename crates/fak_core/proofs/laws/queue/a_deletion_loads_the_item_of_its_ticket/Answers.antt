use Rattle.fak_core.proofs.Common.{reached}
use Rattle.fak_core.proofs.QueueLoads.{loads_own}
use Rattle.fak_core.proofs.QueueReached.{kept_reached}
use Rattle.fak_core.proofs.laws.queue.a_deletion_loads_the_item_of_its_ticket.Goals as goal

pub returns : goal.returns
returns g c = λ size schedule s k z. loads_own size (reached size schedule) s k (kept_reached size schedule z)
