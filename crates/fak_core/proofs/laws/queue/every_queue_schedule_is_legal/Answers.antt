use Rattle.fak_core.proofs.Common.{reached}
use Rattle.fak_core.proofs.QueueReached.{kept_reached, legal_history}
use Rattle.fak_core.proofs.laws.queue.every_queue_schedule_is_legal.Goals as goal

pub returns : goal.returns
returns g c = λ size schedule z. legal_history size (reached size schedule) (kept_reached size schedule z)
