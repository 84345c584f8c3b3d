use Rattle.fak_model.proofs.QueueWeights.{closed_after_close}
use Rattle.fak_model.proofs.laws.queue.a_queue_is_found_shut_after_a_close.Goals as goal

pub returns : goal.returns
returns g c = closed_after_close
