-- Seats of queues that observe: what is asked of the library, and what the exported functions return.
use Rattle.std.specs.Prelude.{◌≡◌, ◌↔◌, ◌≤ℤ◌, ℤ, pos, Bool, IsTrue, []}
use Rattle.std.specs.Arc.{arc_value}
use Rattle.fak_model.specs.declared.queue.Kind.TheVariants.{Close}
use Rattle.fak_model.specs.Queue.{Has, lower_count, upper_count}
use Rattle.fak_queue.specs.Drained.{IsDrained}
use Rattle.fak_queue.specs.Queues.{Makes, drawn_by, state_of}
use Rattle.fak_handles.specs.declared.queue.seat.QueueDesk.{QueueDesk}

-- the seat makes no mark and stays in its state, and its observed history grows
pub record Observes (d e : QueueDesk) : Type 0 where
  pub state : state_of e.seat ≡ state_of d.seat
  pub left : drawn_by e.seat ≡ drawn_by d.seat
  pub makes : Makes (arc_value d.queue).size [] d.seat e.seat

-- ---- the exported functions: what they write follows from the observed history

-- the items that are ready: insertions that have ended, minus the deletions begun and not withdrawn
pub record Counts (code items : ℤ) (d e : QueueDesk) : Type 0 where
  pub code_is : code ≡ pos 0
  pub call : Observes d e
  pub items_is : items ≡ lower_count e.seat.seen

-- the cells in use: insertions begun and not withdrawn, minus deletions that have ended, at least 0; and whether the queue is shut
pub record CountsCells (code cells : ℤ) (shut : Bool) (d e : QueueDesk) : Type 0 where
  pub code_is : code ≡ pos 0
  pub call : Observes d e
  pub cells_is : cells ≡ upper_count e.seat.seen
  pub least : pos 0 ≤ℤ cells
  pub shut_is : IsTrue shut ↔ Has Close e.seat.seen

-- whether the queue is shut, with no cell in use
pub record TellsDrained (code : ℤ) (drained : Bool) (d e : QueueDesk) : Type 0 where
  pub code_is : code ≡ pos 0
  pub call : Observes d e
  pub drained_is : IsTrue drained ↔ IsDrained e.seat.seen
