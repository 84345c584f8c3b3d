use Rattle.fak_queue.proofs.SleeperCalls.{more_deleted}
use Rattle.fak_queue.proofs.SleeperSeats.{keeps_notes_by, knows_after}
use Rattle.fak_queue.proofs.sleeper_seat.SleeperSeat.delete.Goals as goal

pub invariant_of-self : goal.invariant_of-self
invariant_of-self g c = knows_after c.self.invariant _ c.delete_by.ensures.noted (more_deleted _ _ _ c.delete_by.result c.delete_by.ensures.call)

pub returns-clause-notes : goal.returns-clause-notes
returns-clause-notes g c = keeps_notes_by c.self.view_is c.self.invariant _ c.delete_by.ensures.noted _
