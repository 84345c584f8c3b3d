use Rattle.fak_model.proofs.QueueWeights.{queue_weighs, contents_put, nothing_left}
use Rattle.fak_model.proofs.laws.queue.a_queue_weighs_what_was_put.Goals as goal

pub returns-clause-weighs : goal.returns-clause-weighs
returns-clause-weighs g c = queue_weighs

pub returns-clause-few : goal.returns-clause-few
returns-clause-few g c = contents_put

pub returns-clause-none : goal.returns-clause-none
returns-clause-none g c = nothing_left
