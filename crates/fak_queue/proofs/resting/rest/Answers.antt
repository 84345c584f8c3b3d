use Rattle.fak_queue.proofs.Common.{rules}
use Rattle.fak_queue.proofs.Settling.{stays_at_rest}
use Rattle.fak_queue.proofs.resting.rest.Goals as goal

pub returns : goal.returns
returns g c = record { same = search rules; told = stays_at_rest c.requires.seats c.requires.token.phase.0 c.requires.token.phase.1 c.settle.ensures.told }
