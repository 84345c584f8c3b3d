use Rattle.fak_queue.proofs.SleeperCalls.{more_shut}
use Rattle.fak_queue.proofs.SleeperSeats.{keeps_notes_by, knows_after}
use Rattle.fak_queue.proofs.sleeper_seat.SleeperSeat.shut.Goals as goal

pub invariant_of-self : goal.invariant_of-self
invariant_of-self g c = knows_after c.self.invariant _ c.shut_by.ensures.noted (more_shut _ _ _ c.shut_by.result c.shut_by.ensures.call)

pub returns-clause-notes : goal.returns-clause-notes
returns-clause-notes g c = keeps_notes_by c.self.view_is c.self.invariant _ c.shut_by.ensures.noted _
