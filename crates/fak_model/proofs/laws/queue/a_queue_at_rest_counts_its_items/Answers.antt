use Rattle.fak_model.proofs.QueueLaws.{at_rest}
use Rattle.fak_model.proofs.laws.queue.a_queue_at_rest_counts_its_items.Goals as goal

pub returns : goal.returns
returns g c = at_rest
