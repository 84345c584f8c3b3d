-- Schedules of a queue core, and the states that they reach.
use Rattle.std.specs.Prelude.{ℕ, ◌≡◌, ◌%◌, Option, None, Some, List, [], ◌∷◌, pos, false}
use Rattle.fak_core.specs.declared.queue.phase.Phase.{Phase}
use Rattle.fak_core.specs.declared.queue.phase.Phase.TheVariants.{Idle, TestUp, StoreItem, SetFull, TestLow, LoadItem, SetFree, SetShut}
use Rattle.fak_core.specs.declared.queue.step.QueueMove.{QueueMove}
use Rattle.fak_model.specs.declared.queue.Kind.TheVariants.{Got}
use Rattle.fak_model.specs.Queue.{gots, item_at, items_put, Drew}
use Rattle.fak_core.specs.QueueMoves.{QueueState, history_of, next_move, moved, with_phase}

-- all counts are 0, all cells are free, and no call has begun
abbrev pub opening : {A : Type 0} → QueueState A
opening = record { upper = pos 0; lower = pos 0; draws_in = 0; draws_out = 0; turn = λ c. 0; cell = λ c. None; phase = λ s. Idle; past = []; shut = false }

-- an event of a schedule: a seat begins a call, or takes its next step
pub data QueueEvent (A : Type 0) : Type 0 where
  Inserts : (seat : ℕ) → (item : A) → QueueEvent A
  Deletes : (seat : ℕ) → QueueEvent A
  Shuts : (seat : ℕ) → QueueEvent A
  Advances : (seat : ℕ) → QueueEvent A

abbrev pub after_step : {A : Type 0} → QueueState A → ℕ → Option (QueueMove A) → QueueState A
after_step st seat None = st
after_step st seat (Some m) = moved st seat m

-- the state after the step of a seat in this phase
abbrev pub move_from : {A : Type 0} → ℕ → QueueState A → ℕ → Phase A → QueueState A
move_from size st seat p = after_step st seat (next_move size st p)

-- the state after the next step of a seat
abbrev pub stepped : {A : Type 0} → ℕ → QueueState A → ℕ → QueueState A
stepped size st seat = move_from size st seat (st.phase seat)

-- a seat in phase `at` begins a call in phase p, if it is idle
abbrev pub begun : {A : Type 0} → QueueState A → ℕ → Phase A → Phase A → QueueState A
begun st seat p Idle = with_phase st seat p
begun st seat p _ = st

-- the state after an event; a seat with an open call begins no other
abbrev pub happens : {A : Type 0} → ℕ → QueueState A → QueueEvent A → QueueState A
happens size st (Inserts seat x) = begun st seat (TestUp x) (st.phase seat)
happens size st (Deletes seat) = begun st seat TestLow (st.phase seat)
happens size st (Shuts seat) = begun st seat SetShut (st.phase seat)
happens size st (Advances seat) = stepped size st seat

-- the state after a schedule
abbrev pub run : {A : Type 0} → ℕ → List (QueueEvent A) → QueueState A → QueueState A
run size [] st = st
run size (e ∷ es) st = run size es (happens size st e)

-- the state after this schedule from the opening on
abbrev pub reached : {A : Type 0} → ℕ → List (QueueEvent A) → QueueState A
reached size es = run size es opening

-- some schedule leads from the opening state to this one
pub record IsReached {A : Type 0} (size : ℕ) (st : QueueState A) : Type 0 where
  pub schedule : List (QueueEvent A)
  pub leads : reached size schedule ≡ st

-- the seat is between the load that found its turn at this cell and the store that hands the cell on
abbrev pub InCell : {A : Type 0} → ℕ → Phase A → ℕ → Type 0
InCell size (StoreItem k x) c = k % size ≡ c
InCell size (SetFull k x) c = k % size ≡ c
InCell size (LoadItem k) c = k % size ≡ c
InCell size (SetFree k) c = k % size ≡ c
InCell size _ c = ⊥

-- the seat's last mark is the Got with ticket k; the Got and the cell have the item of the Put with that ticket
pub record LoadsItsItem {A : Type 0} (size : ℕ) (st : QueueState A) (seat k : ℕ) : Type 0 where
  pub item : A
  pub ticket : Drew (history_of st) seat (Got item) gots k
  pub put : item_at (items_put (history_of st)) k ≡ Some item
  pub loaded : st.cell (k % size) ≡ Some item
