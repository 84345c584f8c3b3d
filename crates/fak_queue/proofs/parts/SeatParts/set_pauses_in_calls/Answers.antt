use Rattle.fak_queue.proofs.Common.{rules}
use Rattle.fak_queue.proofs.parts.SeatParts.set_pauses_in_calls.Goals as goal

pub invariant_of-self : goal.invariant_of-self
invariant_of-self g c = search rules
