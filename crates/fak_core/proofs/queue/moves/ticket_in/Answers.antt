use Rattle.fak_core.proofs.Common.{rules}
use Rattle.fak_core.proofs.queue.moves.ticket_in.Goals as goal

pub returns : goal.returns
returns c = search rules
