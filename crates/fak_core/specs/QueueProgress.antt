-- Progress of a queue core: the steps that move a call forward, and rounds in which each seat takes a step.
use Rattle.std.specs.Prelude.{ℕ, zero, suc, ◌≡◌, ◌≢◌, ◌⊎◌, ◌+◌, ◌%◌, ◌<◌, ◌≤◌, List, [], ◌∷◌}
use Rattle.std.specs.List.{All, Contains}
use Rattle.fak_core.specs.declared.queue.phase.Phase.{Phase}
use Rattle.fak_core.specs.declared.queue.phase.Phase.TheVariants.{Idle, TestUp, AddUp, BackUp, TicketIn, TurnIn, StoreItem, SetFull, EndInsert, TestLow, SubLow, BackLow, TicketOut, TurnOut, LoadItem, SetFree, EndDelete, SetShut}
use Rattle.fak_core.specs.QueueMoves.{QueueState}
use Rattle.fak_core.specs.QueueSchedule.{QueueEvent, Inserts, Deletes, Shuts, Advances, happens, run, stepped}

-- the seat's next step changes its phase: it is not a load of a turn that has not come
abbrev pub MakesProgress : {A : Type 0} → ℕ → QueueState A → ℕ → Type 0
MakesProgress size st seat = (stepped size st seat).phase seat ≢ st.phase seat

-- the most steps that a seat in this phase takes until its call ends, not counting loads of a turn that has not come
abbrev pub steps_left : {A : Type 0} → Phase A → ℕ
steps_left Idle = 0
steps_left (TestUp x) = 7
steps_left (AddUp x) = 6
steps_left (BackUp x) = 1
steps_left (TicketIn x) = 5
steps_left (TurnIn k x) = 4
steps_left (StoreItem k x) = 3
steps_left (SetFull k x) = 2
steps_left (EndInsert k) = 1
steps_left TestLow = 7
steps_left SubLow = 6
steps_left BackLow = 1
steps_left TicketOut = 5
steps_left (TurnOut k) = 4
steps_left (LoadItem k) = 3
steps_left (SetFree k) = 2
steps_left (EndDelete k) = 1
steps_left SetShut = 1

-- the steps that its call has taken, not counting such loads
abbrev pub steps_made : {A : Type 0} → Phase A → ℕ
steps_made Idle = 0
steps_made (TestUp x) = 0
steps_made (AddUp x) = 1
steps_made (BackUp x) = 2
steps_made (TicketIn x) = 2
steps_made (TurnIn k x) = 3
steps_made (StoreItem k x) = 4
steps_made (SetFull k x) = 5
steps_made (EndInsert k) = 6
steps_made TestLow = 0
steps_made SubLow = 1
steps_made BackLow = 2
steps_made TicketOut = 2
steps_made (TurnOut k) = 3
steps_made (LoadItem k) = 4
steps_made (SetFree k) = 5
steps_made (EndDelete k) = 6
steps_made SetShut = 0

-- the seat has drawn a ticket of this cell, and has not handed the cell on yet
abbrev pub HoldsTicketOf : {A : Type 0} → ℕ → Phase A → ℕ → Type 0
HoldsTicketOf size (TurnIn k x) c = k % size ≡ c
HoldsTicketOf size (StoreItem k x) c = k % size ≡ c
HoldsTicketOf size (SetFull k x) c = k % size ≡ c
HoldsTicketOf size (TurnOut k) c = k % size ≡ c
HoldsTicketOf size (LoadItem k) c = k % size ≡ c
HoldsTicketOf size (SetFree k) c = k % size ≡ c
HoldsTicketOf size _ c = ⊥

-- the next step of one of this many seats moves its call forward
abbrev pub SomeSeatMoves : {A : Type 0} → ℕ → ℕ → QueueState A → Type 0
SomeSeatMoves size seats st = (s : ℕ) × (s < seats) × MakesProgress size st s

-- the next step of one of them that holds a ticket of this cell moves its call forward
abbrev pub SomeHolderMoves : {A : Type 0} → ℕ → ℕ → QueueState A → ℕ → Type 0
SomeHolderMoves size seats st c = (s : ℕ) × (s < seats) × HoldsTicketOf size (st.phase s) c × MakesProgress size st s

-- 1 between the draw of a ticket and the end of the call, else 0
abbrev pub has_drawn : {A : Type 0} → Phase A → ℕ
has_drawn (TurnIn k x) = 1
has_drawn (StoreItem k x) = 1
has_drawn (SetFull k x) = 1
has_drawn (EndInsert k) = 1
has_drawn (TurnOut k) = 1
has_drawn (LoadItem k) = 1
has_drawn (SetFree k) = 1
has_drawn (EndDelete k) = 1
has_drawn _ = 0

-- the number of the first n seats that are between the two
abbrev pub drawn_seats : {A : Type 0} → QueueState A → ℕ → ℕ
drawn_seats st zero = 0
drawn_seats st (suc n) = has_drawn (st.phase n) + drawn_seats st n

-- ---- rounds

-- the seat that begins a call or takes a step
abbrev pub seat_of : {A : Type 0} → QueueEvent A → ℕ
seat_of (Inserts s x) = s
seat_of (Deletes s) = s
seat_of (Shuts s) = s
seat_of (Advances s) = s

-- the event is a step, not the begin of a call
abbrev pub IsAdvance : {A : Type 0} → QueueEvent A → Type 0
IsAdvance (Advances s) = Unit {0}
IsAdvance _ = ⊥

-- all seats from this one on are idle
abbrev pub AreIdleFrom : {A : Type 0} → ℕ → QueueState A → Type 0
AreIdleFrom seats st = (s : ℕ) → seats ≤ s → st.phase s ≡ Idle

-- each such seat takes at least one step
abbrev pub EachSteps : {A : Type 0} → (ℕ → Type 0) → List (QueueEvent A) → Type 0
EachSteps IsSuch es = (s : ℕ) → IsSuch s → Contains es (Advances s)

-- only the first seats have events, and each of them takes at least one step
pub record IsRound {A : Type 0} (seats : ℕ) (es : List (QueueEvent A)) : Type 0 where
  pub each : EachSteps (λ s. s < seats) es
  pub within : All (λ (e : QueueEvent A). seat_of e < seats) es

-- the state after these rounds
abbrev pub after_rounds : {A : Type 0} → ℕ → List (List (QueueEvent A)) → QueueState A → QueueState A
after_rounds size [] st = st
after_rounds size (r ∷ rs) st = after_rounds size rs (run size r st)

-- the seat is idle before one of these events, or after the last
abbrev pub IsIdleOnce : {A : Type 0} → ℕ → List (QueueEvent A) → QueueState A → ℕ → Type 0
IsIdleOnce size [] st s = st.phase s ≡ Idle
IsIdleOnce size (e ∷ es) st s = (st.phase s ≡ Idle) ⊎ IsIdleOnce size es (happens size st e) s

-- the seat is idle at some time within these rounds
abbrev pub IsIdleWithin : {A : Type 0} → ℕ → List (List (QueueEvent A)) → QueueState A → ℕ → Type 0
IsIdleWithin size [] st s = st.phase s ≡ Idle
IsIdleWithin size (r ∷ rs) st s = IsIdleOnce size r st s ⊎ IsIdleWithin size rs (run size r st) s

-- each of the first n seats takes one step, seat 0 last
abbrev pub round_robin : {A : Type 0} → ℕ → List (QueueEvent A)
round_robin zero = []
round_robin (suc n) = Advances n ∷ round_robin n
