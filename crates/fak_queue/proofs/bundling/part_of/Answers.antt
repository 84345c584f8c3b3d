use Rattle.fak_queue.proofs.Common.{refl, ◌∙◌}
use Rattle.fak_queue.proofs.SeatParts.{seat_is}
use Rattle.fak_queue.proofs.Gathering.{token_of_seat}
use Rattle.fak_queue.proofs.bundling.part_of.Goals as goal

pub returns : goal.returns
returns g c = token_of_seat refl c.parts.invariant (seat_is c.parts.view_is ∙ c.seat.view_is) c.requires
