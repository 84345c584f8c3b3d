use Rattle.fak_model.proofs.Common.{queue_rules}
use Rattle.fak_model.proofs.Appending.{history_prefix}
use Rattle.fak_model.proofs.laws.queue.a_beginning_of_a_queue_history_is_one.Goals as goal

pub returns : goal.returns
returns g c = λ size h rest. history_prefix (queue_rules size) h rest
