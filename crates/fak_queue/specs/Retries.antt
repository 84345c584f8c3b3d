-- Calls on a queue that are tried again if they are refused.
use Rattle.std.specs.Prelude.{◌≡◌, ℕ, ◌+◌, ◌<◌, List, [], ◌∷◌, ◌++◌, length, Some}
use Rattle.std.specs.List.{All, flat_map}
use Rattle.fak_model.specs.declared.queue.Kind.{Kind}
use Rattle.fak_model.specs.declared.queue.Kind.TheVariants.{OverIn, BackIn, NoRoom, OverOut, BackOut, NoItem, Closed, LateIn}
use Rattle.fak_model.specs.declared.queue.Mark.{Mark}
use Rattle.fak_model.specs.Queue.{count, puts, gots, items_put, item_at}
use Rattle.fak_model.specs.Calls.{SeatInfo}
use Rattle.fak_queue.specs.declared.fault.InsertFault.{InsertFault}
use Rattle.fak_queue.specs.declared.fault.InsertFault.TheVariants as insertion
use Rattle.fak_queue.specs.declared.fault.DeleteFault.{DeleteFault}
use Rattle.fak_queue.specs.declared.fault.DeleteFault.TheVariants as deletion
use Rattle.fak_queue.specs.Queues.{Makes, before_own, drawn_by, IsWorn, kinds_in, kinds_out}

-- ---- refused calls

-- an insertion that was refused Full or Closed, at its test or at its add
pub data RefusedInsertion : Type 0 where
  NotIn : RefusedInsertion
  WithdrawnIn : RefusedInsertion
  ClosedIn : RefusedInsertion
  WithdrawnLate : RefusedInsertion

abbrev pub kinds_not_in : {T : Type 0} → RefusedInsertion → List (Kind T)
kinds_not_in NotIn = NoRoom ∷ []
kinds_not_in WithdrawnIn = OverIn ∷ BackIn ∷ []
kinds_not_in ClosedIn = Closed ∷ []
kinds_not_in WithdrawnLate = LateIn ∷ BackIn ∷ []

-- it was refused Full
abbrev pub IsFull : RefusedInsertion → Type 0
IsFull NotIn = Unit {0}
IsFull WithdrawnIn = Unit {0}
IsFull ClosedIn = ⊥
IsFull WithdrawnLate = ⊥

-- it was refused Closed
abbrev pub IsClosed : RefusedInsertion → Type 0
IsClosed NotIn = ⊥
IsClosed WithdrawnIn = ⊥
IsClosed ClosedIn = Unit {0}
IsClosed WithdrawnLate = Unit {0}

-- a deletion that was refused Empty, at its test or at its subtraction
pub data RefusedDeletion : Type 0 where
  NotOut : RefusedDeletion
  WithdrawnOut : RefusedDeletion

abbrev pub kinds_not_out : {T : Type 0} → RefusedDeletion → List (Kind T)
kinds_not_out NotOut = NoItem ∷ []
kinds_not_out WithdrawnOut = OverOut ∷ BackOut ∷ []

-- ---- calls after refused ones

-- a call with marks of these kinds, after any number of refused ones
pub record MakesAtLast {T R : Type 0} (kinds_of : R → List (Kind T)) (size : ℕ) (kinds : List (Kind T)) (old new : SeatInfo (Mark T)) : Type 0 where
  pub refused : List R
  pub makes : Makes size (flat_map kinds_of refused ++ kinds) old new

-- one whole insertion of x, after any number refused Full or Closed
abbrev pub InsertsAtLast : {T : Type 0} → ℕ → T → SeatInfo (Mark T) → SeatInfo (Mark T) → Type 0
InsertsAtLast size x old new = (ticket : ℕ) × MakesAtLast kinds_not_in size (kinds_in ticket x) old new

-- one whole deletion that got x, after any number refused Empty
abbrev pub DeletesAtLast : {T : Type 0} → ℕ → T → SeatInfo (Mark T) → SeatInfo (Mark T) → Type 0
DeletesAtLast size x old new = (ticket : ℕ) × MakesAtLast kinds_not_out size (kinds_out ticket x) old new

-- what was before the mark of this number, counted from 0, among those of the last call
abbrev pub before_last : {T R : Type 0} → (R → List (Kind T)) → List R → ℕ → SeatInfo (Mark T) → SeatInfo (Mark T) → List (Mark T)
before_last kinds_of refused number old new = before_own (length (flat_map kinds_of refused) + number) old new

-- ---- calls that wait

-- an insertion of x with ticket k within the stint, after any number refused Full: as many Puts come before its own as the ticket says,
-- and its item is the one under this ticket
pub record InsertsAfterFull {T : Type 0} (size k : ℕ) (x : T) (old new : SeatInfo (Mark T)) : Type 0 where
  pub within : drawn_by old < old.stint
  pub tries : MakesAtLast kinds_not_in size (kinds_in k x) old new
  pub full : All IsFull tries.refused
  pub ticket : count puts (before_last kinds_not_in tries.refused 1 old new) ≡ k
  pub put : item_at (items_put new.seen) k ≡ Some x

-- an insertion within the stint that found the queue shut, after any number refused Full
pub record ClosesAfterFull {T : Type 0} (size : ℕ) (old new : SeatInfo (Mark T)) : Type 0 where
  pub within : drawn_by old < old.stint
  pub closed : RefusedInsertion
  pub is_closed : IsClosed closed
  pub tries : MakesAtLast kinds_not_in size (kinds_not_in closed) old new
  pub full : All IsFull tries.refused

-- the item comes back; only a seat that drew all its tickets is worn, and no tries end Full
abbrev pub RefusesWaitingInsertion : {T : Type 0} → ℕ → T → SeatInfo (Mark T) → SeatInfo (Mark T) → InsertFault T → Type 0
RefusesWaitingInsertion size x old new (insertion.Worn y) = (y ≡ x) × IsWorn old new
RefusesWaitingInsertion size x old new (insertion.Closed y) = (y ≡ x) × ClosesAfterFull size old new
RefusesWaitingInsertion size x old new (insertion.Full upper y) = ⊥

-- a deletion with ticket k within the stint, after any number refused Empty, which hands out the value that was put under its ticket
pub record DeletesAfterEmpty {T : Type 0} (size k : ℕ) (x : T) (old new : SeatInfo (Mark T)) : Type 0 where
  pub within : drawn_by old < old.stint
  pub tries : MakesAtLast kinds_not_out size (kinds_out k x) old new
  pub ticket : count gots (before_last kinds_not_out tries.refused 1 old new) ≡ k
  pub put : item_at (items_put new.seen) k ≡ Some x

-- only a seat that drew all its tickets is worn, and no tries end Empty
abbrev pub RefusesWaitingDeletion : {T : Type 0} → SeatInfo (Mark T) → SeatInfo (Mark T) → DeleteFault → Type 0
RefusesWaitingDeletion old new deletion.Worn = IsWorn old new
RefusesWaitingDeletion old new (deletion.Empty lower) = ⊥
