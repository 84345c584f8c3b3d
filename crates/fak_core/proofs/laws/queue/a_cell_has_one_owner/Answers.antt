use Rattle.fak_core.proofs.Common.{reached}
use Rattle.fak_core.proofs.QueueOwners.{alone}
use Rattle.fak_core.proofs.QueueReached.{kept_reached}
use Rattle.fak_core.proofs.laws.queue.a_cell_has_one_owner.Goals as goal

pub returns : goal.returns
returns g c = λ size schedule s t at z. alone size (reached size schedule) s t at z (kept_reached size schedule z)
