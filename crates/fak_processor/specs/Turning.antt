-- What a processor has in the middle of its turns.
use Rattle.std.specs.Prelude.{◌≡◌, ℕ, ◌<◌, List, [], ◌++◌, length}
use Rattle.fak_model.specs.Histories.{Rules}
use Rattle.fak_model.specs.Calls.{SeatInfo}
use Rattle.fak_model.specs.Queue.{queue_rules}
use Rattle.fak_model.specs.Room.{room_rules}
use Rattle.fak_model.specs.Room as room
use Rattle.fak_model.specs.Credit.{credit_rules}
use Rattle.fak_model.specs.Credit as credit
use Rattle.fak_sem.specs.Semaphores.{credit_part, queue_part}
use Rattle.fak_text.specs.Script.{ScriptOf}
use Rattle.fak_text.specs.Journal.{Process}
use Rattle.fak_run.specs.Ledger.{Ledger, Balanced}
use Rattle.fak_processor.specs.Holding.{Owns, queue_kind, Bundle}

-- the seats' marks are those of the ledger, which balances except for what is in hand
pub record Turning (script : ScriptOf) (b : Bundle) (l : Ledger) (hand : List Process) : Type 0 where
  pub balanced : Balanced script (length script.semaphores) [] hand l
  pub ready : Owns (queue_rules script.slots) queue_kind b.ready l.ready
  pub free : Owns (queue_rules script.slots) queue_kind b.free l.free
  pub births : Owns (room_rules script.births) room.kind_of b.births l.births
  pub busy : Owns credit_rules credit.kind_of b.busy l.busy
  pub credits : (s : ℕ) → s < length script.semaphores → Owns credit_rules credit.kind_of (credit_part (b.sems s)) (l.credits s)
  pub waits : (s : ℕ) → s < length script.semaphores → Owns (queue_rules script.slots) queue_kind (queue_part (b.sems s)) (l.waits s)

-- the seat keeps its name, and its own marks grow by these kinds
pub record Grows {M W C K : Type 0} (rules : Rules M W C) (kind_of : M → K) (old new : SeatInfo M) (kinds : List K) : Type 0 where
  pub name : new.name ≡ old.name
  pub owns : (before : List K) → Owns rules kind_of old before → Owns rules kind_of new (before ++ kinds)

-- each seat's own marks grow by those of the ledger
pub record Adds (script : ScriptOf) (old new : Bundle) (l : Ledger) : Type 0 where
  pub ready : Grows (queue_rules script.slots) queue_kind old.ready new.ready l.ready
  pub free : Grows (queue_rules script.slots) queue_kind old.free new.free l.free
  pub births : Grows (room_rules script.births) room.kind_of old.births new.births l.births
  pub busy : Grows credit_rules credit.kind_of old.busy new.busy l.busy
  pub credits : (s : ℕ) → s < length script.semaphores → Grows credit_rules credit.kind_of (credit_part (old.sems s)) (credit_part (new.sems s)) (l.credits s)
  pub waits : (s : ℕ) → s < length script.semaphores → Grows (queue_rules script.slots) queue_kind (queue_part (old.sems s)) (queue_part (new.sems s)) (l.waits s)
