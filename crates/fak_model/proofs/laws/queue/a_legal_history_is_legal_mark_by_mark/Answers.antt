use Rattle.fak_model.proofs.QueueLiteral.{to_past, to_literal}
use Rattle.fak_model.proofs.laws.queue.a_legal_history_is_legal_mark_by_mark.Goals as goal

pub returns : goal.returns
returns g c = λ size h. (to_past size h, to_literal size h)
