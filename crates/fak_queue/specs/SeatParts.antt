-- What the parts of a seat know, which the calls on the queue are about.
use Rattle.std.specs.Prelude.{ℕ, List, Option}
use Rattle.fak_model.specs.declared.note.Note.{Note}
use Rattle.fak_model.specs.declared.queue.Mark.{Mark}
use Rattle.fak_model.specs.Calls.{ObjectId, SeatInfo}
use Rattle.fak_queue.specs.Shown.{QueueHolder}
use Rattle.fak_queue.specs.Queues.{queue_seat}

-- a seat, and what it has noted, if this is known
pub record PartsInfo (T : Type 0) : Type 0 where
  pub seat : SeatInfo (Mark T)
  pub noted : Option (List Note)

abbrev pub queue_parts : {T : Type 0} → ObjectId → ℕ → ℕ → QueueHolder T → PartsInfo T
queue_parts object name left me = record { seat = queue_seat object name left me; noted = me.0.noted }
