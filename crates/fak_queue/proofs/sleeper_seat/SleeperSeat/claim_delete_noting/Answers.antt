use Rattle.fak_queue.proofs.SleeperCalls.{more_claimed_out}
use Rattle.fak_queue.proofs.SleeperSeats.{keeps_notes_by, knows_after}
use Rattle.fak_queue.proofs.sleeper_seat.SleeperSeat.claim_delete_noting.Goals as goal

pub invariant_of-self : goal.invariant_of-self
invariant_of-self g c = knows_after c.self.invariant _ c.claim_delete_by.ensures.noted (more_claimed_out _ _ _ c.claim_delete_by.result c.claim_delete_by.ensures.call)

pub returns-clause-notes : goal.returns-clause-notes
returns-clause-notes g c = keeps_notes_by c.self.view_is c.self.invariant _ c.claim_delete_by.ensures.noted _
