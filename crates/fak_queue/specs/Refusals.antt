-- Which refusal a call returns, and what it leaves.
use Rattle.std.specs.Prelude.{◌≡◌, ℕ, ◌<◌, ◌≤◌, Bool, if◌then◌else◌, List, [], ◌∷◌}
use Rattle.fak_model.specs.Limits.{IsNumberOfSeats, IsStint, large_size, largest_size}
use Rattle.fak_model.specs.declared.queue.Kind.{Kind}
use Rattle.fak_model.specs.declared.queue.Kind.TheVariants as made
use Rattle.fak_model.specs.declared.queue.Mark.{Mark}
use Rattle.fak_model.specs.Calls.{SeatInfo}
use Rattle.fak_queue.specs.declared.fault.InsertFault.{InsertFault}
use Rattle.fak_queue.specs.declared.fault.InsertFault.TheVariants.{Worn, Closed, Full}
use Rattle.fak_queue.specs.declared.fault.DeleteFault.{DeleteFault}
use Rattle.fak_queue.specs.declared.fault.DeleteFault.TheVariants as deletion
use Rattle.fak_queue.specs.declared.fault.OpenFault.{OpenFault}
use Rattle.fak_queue.specs.declared.fault.OpenFault.TheVariants.{BadSize, BadSeats, BadStint, Memory}
use Rattle.fak_queue.specs.Queues.{Makes, drawn_by, IsWorn, RefusesClosed, RefusesFull, RefusesEmpty}

-- the item comes back; only a seat that drew all its tickets is worn
abbrev pub RefusesInsertion : {T : Type 0} → ℕ → T → SeatInfo (Mark T) → SeatInfo (Mark T) → InsertFault T → Type 0
RefusesInsertion size x old new (Worn y) = (y ≡ x) × IsWorn old new
RefusesInsertion size x old new (Closed y) = (y ≡ x) × (drawn_by old < old.stint) × RefusesClosed size old new
RefusesInsertion size x old new (Full upper y) = (y ≡ x) × (drawn_by old < old.stint) × RefusesFull size upper old new

abbrev pub RefusesDeletion : {T : Type 0} → ℕ → SeatInfo (Mark T) → SeatInfo (Mark T) → DeleteFault → Type 0
RefusesDeletion size old new deletion.Worn = IsWorn old new
RefusesDeletion size old new (deletion.Empty lower) = (drawn_by old < old.stint) × RefusesEmpty size lower old new

-- the marks of a claim that the upper count refused, or the close, or the lower count: by its first test; or after it had counted, and
-- was withdrawn
abbrev pub kinds_full : {T : Type 0} → Bool → List (Kind T)
kinds_full withdraws = if withdraws then made.OverIn ∷ made.BackIn ∷ [] else made.NoRoom ∷ []

abbrev pub kinds_closed : {T : Type 0} → Bool → List (Kind T)
kinds_closed withdraws = if withdraws then made.LateIn ∷ made.BackIn ∷ [] else made.Closed ∷ []

abbrev pub kinds_empty : {T : Type 0} → Bool → List (Kind T)
kinds_empty withdraws = if withdraws then made.OverOut ∷ made.BackOut ∷ [] else made.NoItem ∷ []

-- a refused claim, and whether it was withdrawn
abbrev pub RefusesInsertionBy : {T : Type 0} → Bool → ℕ → SeatInfo (Mark T) → SeatInfo (Mark T) → InsertFault T → Type 0
RefusesInsertionBy withdraws size old new (Worn y) = Unit {0}
RefusesInsertionBy withdraws size old new (Closed y) = Makes size (kinds_closed withdraws) old new
RefusesInsertionBy withdraws size old new (Full upper y) = Makes size (kinds_full withdraws) old new

abbrev pub RefusesDeletionBy : {T : Type 0} → Bool → ℕ → SeatInfo (Mark T) → SeatInfo (Mark T) → DeleteFault → Type 0
RefusesDeletionBy withdraws size old new deletion.Worn = Unit {0}
RefusesDeletionBy withdraws size old new (deletion.Empty lower) = Makes size (kinds_empty withdraws) old new

-- ---- opening

abbrev pub IsSize : ℕ → Type 0
IsSize size = (1 ≤ size) × (size ≤ largest_size)

abbrev pub IsInRange : ℕ → ℕ → ℕ → Type 0
IsInRange size seats stint = IsSize size × IsNumberOfSeats seats × IsStint stint

-- the first of the three that is out of range
abbrev pub IsRangeFault : ℕ → ℕ → ℕ → OpenFault → Type 0
IsRangeFault size seats stint BadSize = ¬ IsSize size
IsRangeFault size seats stint BadSeats = IsSize size × ¬ IsNumberOfSeats seats
IsRangeFault size seats stint BadStint = IsSize size × IsNumberOfSeats seats × ¬ IsStint stint
IsRangeFault size seats stint Memory = ⊥

-- only a call whose numbers are in range asks for memory
abbrev pub IsOpenFault : ℕ → ℕ → ℕ → OpenFault → Type 0
IsOpenFault size seats stint Memory = IsInRange size seats stint
IsOpenFault size seats stint fault = IsRangeFault size seats stint fault

-- ---- opening a large queue

abbrev pub IsLargeSize : ℕ → Type 0
IsLargeSize size = (1 ≤ size) × (size ≤ large_size)
