use Rattle.fak_queue.proofs.SleeperCalls.{more_observed}
use Rattle.fak_queue.proofs.SleeperSeats.{keeps_notes_by, knows_after}
use Rattle.fak_queue.proofs.sleeper_seat.SleeperSeat.cells_in_use.Goals as goal

pub invariant_of-self : goal.invariant_of-self
invariant_of-self g c = knows_after c.self.invariant _ c.cells_in_use_by.ensures.noted (more_observed _ _ _ c.cells_in_use_by.ensures.makes)

pub returns-clause-notes : goal.returns-clause-notes
returns-clause-notes g c = keeps_notes_by c.self.view_is c.self.invariant _ c.cells_in_use_by.ensures.noted _
