use Rattle.fak_model.proofs.QueueWeights.{fill_after_put}
use Rattle.fak_model.proofs.laws.queue.a_cell_is_put_then_filled_then_taken.Goals as goal

pub returns-clause-filled : goal.returns-clause-filled
returns-clause-filled g c = λ size k h before after m. fill_after_put size h before after m k
