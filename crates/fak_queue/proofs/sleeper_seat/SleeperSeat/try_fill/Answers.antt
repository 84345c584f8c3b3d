use Rattle.fak_queue.proofs.Common.{◌∙◌, ap, state_of}
use Rattle.fak_queue.proofs.SleeperCalls.{more_filled}
use Rattle.fak_queue.proofs.SleeperSeats.{keeps_notes_by, knows_after}
use Rattle.fak_queue.proofs.sleeper_seat.SleeperSeat.try_fill.Goals as goal

pub invariant_of-self : goal.invariant_of-self
invariant_of-self g c = knows_after c.self.invariant _ c.try_fill_by.ensures.noted (more_filled _ _ _ c.requires.inserting.0 c.try_fill_by.result (c.try_fill_by.ensures.call c.requires.inserting.0 (ap (λ a. state_of a.seat) c.self.view_is ∙ c.requires.inserting.1)))

pub returns-clause-notes : goal.returns-clause-notes
returns-clause-notes g c = keeps_notes_by c.self.view_is c.self.invariant _ c.try_fill_by.ensures.noted _
