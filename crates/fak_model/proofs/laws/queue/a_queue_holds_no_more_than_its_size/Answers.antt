use Rattle.fak_model.proofs.QueueLaws.{contents_fit}
use Rattle.fak_model.proofs.laws.queue.a_queue_holds_no_more_than_its_size.Goals as goal

pub returns : goal.returns
returns g c = contents_fit
