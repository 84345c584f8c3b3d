use Rattle.fak_model.proofs.QueueLaws.{in_paper_order}
use Rattle.fak_model.proofs.laws.queue.a_queue_keeps_the_order_of_its_calls.Goals as goal

pub returns : goal.returns
returns g c = in_paper_order
