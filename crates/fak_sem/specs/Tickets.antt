-- What a call in the wait queue requires of its seat.
use Rattle.std.specs.Prelude.{◌<◌}
use Rattle.fak_model.specs.declared.queue.Mark.{Mark}
use Rattle.fak_model.specs.Calls.{ObjectId, SeatInfo}
use Rattle.fak_queue.specs.Queues.{IsIdleSeat, drawn_by}

-- the seat belongs to this queue, is between two calls, and may draw one more ticket
pub record HasTicket {T : Type 0} (queue : ObjectId) (seat : SeatInfo (Mark T)) : Type 0 where
  pub idle : IsIdleSeat queue seat
  pub left : drawn_by seat < seat.stint
