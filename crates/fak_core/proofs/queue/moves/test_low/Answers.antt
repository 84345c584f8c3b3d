use Rattle.fak_core.proofs.Common.{rules}
use Rattle.fak_core.proofs.queue.moves.test_low.Goals as goal

pub returns-then-has_item : goal.returns-then-has_item
returns-then-has_item c = search rules
