-- Seats of queues: what is asked of the library, and what the exported functions return.
use Rattle.std.specs.Prelude.{◌≡◌, ◌≢◌, ◌+◌, ℕ, ℤ, pos, Bool, Option, Some, None, Result, Ok, Err, MatchOption, MatchResult, cond, is_some}
use Rattle.std.specs.Arc.{arc_value}
use Rattle.fak_queue.specs.declared.fault.InsertFault.{InsertFault}
use Rattle.fak_queue.specs.declared.fault.InsertFault.TheVariants.{Worn, Closed, Full}
use Rattle.fak_queue.specs.declared.fault.DeleteFault.{DeleteFault}
use Rattle.fak_queue.specs.declared.fault.DeleteFault.TheVariants as deletion
use Rattle.fak_queue.specs.declared.state.SeatState.{SeatState}
use Rattle.fak_queue.specs.declared.state.SeatState.TheVariants.{Idle, Inserting, Deleting}
use Rattle.fak_queue.specs.Queues.{ClaimsIn, ClaimsOut, Fills, Takes, WaitsToFill, WaitsToTake, ShutsAs, drawn_by, state_of}
use Rattle.fak_queue.specs.Refusals.{RefusesDeletion, RefusesInsertion}
use Rattle.fak_handles.specs.declared.queue.seat.QueueDesk.{QueueDesk}

-- ---- what is asked of the queue: the clauses of its calls, over the desk before and after

-- the seat is not idle, and nothing has changed
abbrev pub IsBusy : QueueDesk → QueueDesk → Type 0
IsBusy d e = (state_of d.seat ≢ Idle) × (e ≡ d)

abbrev pub IsNotInserting : QueueDesk → QueueDesk → Type 0
IsNotInserting d e = ((k : ℕ) → state_of d.seat ≢ Inserting k) × (e ≡ d)

abbrev pub IsNotDeleting : QueueDesk → QueueDesk → Type 0
IsNotDeleting d e = ((k : ℕ) → state_of d.seat ≢ Deleting k) × (e ≡ d)

pub record AsksToInsert (item : ℕ) (answer : Result ℕ (InsertFault ℕ)) (d e : QueueDesk) : Type 0 where
  pub idle : state_of d.seat ≡ Idle
  pub state : MatchResult answer (λ k. state_of e.seat ≡ Inserting k) (λ _. state_of e.seat ≡ Idle)
  pub left : MatchResult answer (λ _. drawn_by e.seat ≡ drawn_by d.seat + 1) (λ _. drawn_by e.seat ≡ drawn_by d.seat)
  pub call : MatchResult answer (λ k. ClaimsIn (arc_value d.queue).size k item d.seat e.seat) (RefusesInsertion (arc_value d.queue).size item d.seat e.seat)

pub record AsksToDelete (answer : Result ℕ DeleteFault) (d e : QueueDesk) : Type 0 where
  pub idle : state_of d.seat ≡ Idle
  pub state : MatchResult answer (λ k. state_of e.seat ≡ Deleting k) (λ _. state_of e.seat ≡ Idle)
  pub left : MatchResult answer (λ _. drawn_by e.seat ≡ drawn_by d.seat + 1) (λ _. drawn_by e.seat ≡ drawn_by d.seat)
  pub call : MatchResult answer (λ k. ClaimsOut (arc_value d.queue).size k d.seat e.seat) (RefusesDeletion (arc_value d.queue).size d.seat e.seat)

pub record AsksToFill (answer : Option ℕ) (d e : QueueDesk) : Type 0 where
  pub ticket : ℕ
  pub inserting : state_of d.seat ≡ Inserting ticket
  pub state : MatchOption answer (state_of e.seat ≡ state_of d.seat) (λ _. state_of e.seat ≡ Idle)
  pub left : drawn_by e.seat ≡ drawn_by d.seat
  pub call : MatchOption answer (WaitsToFill (arc_value d.queue).size ticket d.seat e.seat) (λ j. (j ≡ ticket) × Fills (arc_value d.queue).size ticket d.seat e.seat)

pub record AsksToTake (answer : Option (ℕ × ℕ)) (d e : QueueDesk) : Type 0 where
  pub ticket : ℕ
  pub deleting : state_of d.seat ≡ Deleting ticket
  pub state : MatchOption answer (state_of e.seat ≡ state_of d.seat) (λ _. state_of e.seat ≡ Idle)
  pub left : drawn_by e.seat ≡ drawn_by d.seat
  pub call : MatchOption answer (WaitsToTake (arc_value d.queue).size ticket d.seat e.seat) (λ p. (p.0 ≡ ticket) × Takes (arc_value d.queue).size ticket p.1 d.seat e.seat)

pub record AsksToShut (answer : Bool) (d e : QueueDesk) : Type 0 where
  pub idle : state_of d.seat ≡ Idle
  pub state : state_of e.seat ≡ Idle
  pub left : drawn_by e.seat ≡ drawn_by d.seat
  pub call : ShutsAs (arc_value d.queue).size answer d.seat e.seat

-- ---- the results as codes

abbrev pub insert_fault_code : InsertFault ℕ → ℤ
insert_fault_code (Full u x) = pos 2
insert_fault_code (Closed x) = pos 4
insert_fault_code (Worn x) = pos 5

abbrev pub delete_fault_code : DeleteFault → ℤ
delete_fault_code (deletion.Empty l) = pos 3
delete_fault_code deletion.Worn = pos 5

abbrev pub insert_code : Option (Result ℕ (InsertFault ℕ)) → ℤ
insert_code None = pos 7
insert_code (Some (Ok k)) = pos 0
insert_code (Some (Err f)) = insert_fault_code f

abbrev pub delete_code : Option (Result ℕ DeleteFault) → ℤ
delete_code None = pos 7
delete_code (Some (Ok k)) = pos 0
delete_code (Some (Err f)) = delete_fault_code f

-- the item that a try took
abbrev pub item_of : Option (ℕ × ℕ) → Option ℕ
item_of (Some p) = Some p.1
item_of None = None

abbrev pub try_code : {T : Type 0} → Option (Option T) → ℤ
try_code None = pos 7
try_code (Some None) = pos 1
try_code (Some (Some x)) = pos 0

abbrev pub shut_code : Option Bool → ℤ
shut_code None = pos 7
shut_code (Some b) = pos 0

abbrev pub state_code : SeatState → ℕ
state_code Idle = 0
state_code (Inserting k) = 1
state_code (Deleting k) = 2

-- the ticket that was drawn, else the number that was there
abbrev pub drawn_or : {F : Type 0} → ℕ → Option (Result ℕ F) → ℕ
drawn_or n (Some (Ok k)) = k
drawn_or n (Some (Err f)) = n
drawn_or n None = n

-- the item that was taken, else the number that was there
abbrev pub taken_or : ℕ → Option (Option (ℕ × ℕ)) → ℕ
taken_or n (Some (Some p)) = p.1
taken_or n (Some None) = n
taken_or n None = n

abbrev pub shut_or : Bool → Option Bool → Bool
shut_or b (Some c) = c
shut_or b None = b

-- the ticket of the open call, else the number that was there
abbrev pub open_or : ℕ → SeatState → ℕ
open_or n Idle = n
open_or n (Inserting k) = k
open_or n (Deleting k) = k

-- ---- the exported functions

abbrev pub SameQueue : QueueDesk → QueueDesk → Type 0
SameQueue d e = arc_value e.queue ≡ arc_value d.queue

pub record Inserts (code : ℤ) (item before after : ℕ) (d e : QueueDesk) : Type 0 where
  pub answer : Option (Result ℕ (InsertFault ℕ))
  pub code_is : code ≡ insert_code answer
  pub ticket_is : after ≡ drawn_or before answer
  pub call : MatchOption answer (IsBusy d e) (λ r. AsksToInsert item r d e)

pub record Deletes (code : ℤ) (before after : ℕ) (d e : QueueDesk) : Type 0 where
  pub answer : Option (Result ℕ DeleteFault)
  pub code_is : code ≡ delete_code answer
  pub ticket_is : after ≡ drawn_or before answer
  pub call : MatchOption answer (IsBusy d e) (λ r. AsksToDelete r d e)

pub record TriesToFill (code : ℤ) (d e : QueueDesk) : Type 0 where
  pub answer : Option (Option ℕ)
  pub code_is : code ≡ try_code answer
  pub call : MatchOption answer (IsNotInserting d e) (λ r. AsksToFill r d e)

pub record TriesToTake (code : ℤ) (before after : ℕ) (d e : QueueDesk) : Type 0 where
  pub answer : Option (Option (ℕ × ℕ))
  pub code_is : code ≡ try_code answer
  pub item_is : after ≡ taken_or before answer
  pub call : MatchOption answer (IsNotDeleting d e) (λ r. AsksToTake r d e)

pub record Shuts (code : ℤ) (before after : Bool) (d e : QueueDesk) : Type 0 where
  pub answer : Option Bool
  pub code_is : code ≡ shut_code answer
  pub open_is : after ≡ shut_or before answer
  pub call : MatchOption answer (IsBusy d e) (λ was_open. AsksToShut was_open d e)

-- nothing has changed
abbrev pub Pauses : ℤ → QueueDesk → QueueDesk → Type 0
Pauses code d e = (code ≡ pos 0) × (e ≡ d)

-- nothing has changed, and what was written is the state of the seat
pub record Looks (code : ℤ) (state before after left : ℕ) (d e : QueueDesk) : Type 0 where
  pub code_is : code ≡ pos 0
  pub same : e ≡ d
  pub state_is : state ≡ state_code (state_of d.seat)
  pub ticket_is : after ≡ open_or before (state_of d.seat)
  pub left_is : left + drawn_by d.seat ≡ d.seat.stint

-- ---- in one call

-- a claim, and if it was granted one try to fill
pub record FillsOnce (item ticket : ℕ) (filled : Bool) (d e : QueueDesk) : Type 0 where
  pub mid : QueueDesk
  pub answer : Option ℕ
  pub claim : AsksToInsert item (Ok ticket) d mid
  pub try : AsksToFill answer mid e
  pub filled_is : filled ≡ is_some answer

abbrev pub AsksToInsertOnce : ℕ → Result (ℕ × Bool) (InsertFault ℕ) → QueueDesk → QueueDesk → Type 0
AsksToInsertOnce item (Ok p) d e = FillsOnce item p.0 p.1 d e
AsksToInsertOnce item (Err f) d e = AsksToInsert item (Err f) d e

pub record TakesOnce (ticket : ℕ) (taken : Option ℕ) (d e : QueueDesk) : Type 0 where
  pub mid : QueueDesk
  pub answer : Option (ℕ × ℕ)
  pub claim : AsksToDelete (Ok ticket) d mid
  pub try : AsksToTake answer mid e
  pub taken_is : taken ≡ item_of answer

abbrev pub AsksToDeleteOnce : Result (ℕ × Option ℕ) DeleteFault → QueueDesk → QueueDesk → Type 0
AsksToDeleteOnce (Ok p) d e = TakesOnce p.0 p.1 d e
AsksToDeleteOnce (Err f) d e = AsksToDelete (Err f) d e

abbrev pub insert_once_code : Option (Result (ℕ × Bool) (InsertFault ℕ)) → ℤ
insert_once_code None = pos 7
insert_once_code (Some (Ok p)) = cond p.1 (pos 0) (pos 1)
insert_once_code (Some (Err f)) = insert_fault_code f

abbrev pub one_try_code : Option ℕ → ℤ
one_try_code (Some x) = pos 0
one_try_code None = pos 1

abbrev pub delete_once_code : Option (Result (ℕ × Option ℕ) DeleteFault) → ℤ
delete_once_code None = pos 7
delete_once_code (Some (Ok p)) = one_try_code p.1
delete_once_code (Some (Err f)) = delete_fault_code f

abbrev pub drawn_once_or : {A F : Type 0} → ℕ → Option (Result (ℕ × A) F) → ℕ
drawn_once_or n (Some (Ok p)) = p.0
drawn_once_or n (Some (Err f)) = n
drawn_once_or n None = n

abbrev pub or_else : ℕ → Option ℕ → ℕ
or_else n (Some x) = x
or_else n None = n

abbrev pub taken_once_or : ℕ → Option (Result (ℕ × Option ℕ) DeleteFault) → ℕ
taken_once_or n (Some (Ok p)) = or_else n p.1
taken_once_or n (Some (Err f)) = n
taken_once_or n None = n

pub record InsertsOnce (code : ℤ) (item before after : ℕ) (d e : QueueDesk) : Type 0 where
  pub answer : Option (Result (ℕ × Bool) (InsertFault ℕ))
  pub code_is : code ≡ insert_once_code answer
  pub ticket_is : after ≡ drawn_once_or before answer
  pub call : MatchOption answer (IsBusy d e) (λ r. AsksToInsertOnce item r d e)

pub record DeletesOnce (code : ℤ) (before after item_before item_after : ℕ) (d e : QueueDesk) : Type 0 where
  pub answer : Option (Result (ℕ × Option ℕ) DeleteFault)
  pub code_is : code ≡ delete_once_code answer
  pub ticket_is : after ≡ drawn_once_or before answer
  pub item_is : item_after ≡ taken_once_or item_before answer
  pub call : MatchOption answer (IsBusy d e) (λ r. AsksToDeleteOnce r d e)
