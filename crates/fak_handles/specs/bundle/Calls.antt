-- Bundles of seats of queues: what is asked of the library, and what the exported functions return.
use Rattle.std.specs.Prelude.{◌≡◌, ◌≢◌, ◌⊎◌, ◌+◌, ◌-◌, ◌<◌, ◌++◌, ℕ, ℤ, pos, List, [], ◌∷◌, drop, take, length, min, cond, ◌==◌, ◌%◌, ◌^◌, Option, Some, None, Result, Ok, Err, MatchOption, MatchResult}
use Rattle.std.specs.Arc.{arc_value}
use Rattle.fak_queue.specs.declared.bundle.BundleState.{BundleState}
use Rattle.fak_queue.specs.declared.bundle.BundleState.TheVariants.{Idle, Inserting, Deleting}
use Rattle.fak_queue.specs.declared.burst.Burst.{Burst}
use Rattle.fak_queue.specs.declared.fault.BurstFault.{BurstFault}
use Rattle.fak_queue.specs.declared.fault.BurstFault.TheVariants.{Worn, Closed, Full}
use Rattle.fak_queue.specs.declared.fault.DeleteFault.{DeleteFault}
use Rattle.fak_queue.specs.declared.fault.DeleteFault.TheVariants as deletion
use Rattle.fak_queue.specs.BundleCalls.{drawn_by_all}
use Rattle.fak_queue.specs.BurstCalls.{ClaimsBurst, ClaimsBurstOut, RefusesBurst, RefusesBurstOut}
use Rattle.fak_queue.specs.BurstCalls.{TriesToFill, TriesToTake}
use Rattle.fak_handles.specs.bundle.Open.{open_in}
use Rattle.fak_handles.specs.declared.bundle.seat.BundleDesk.{BundleDesk}

abbrev pub SameQueueOf : BundleDesk → BundleDesk → Type 0
SameQueueOf d e = arc_value e.queue ≡ arc_value d.queue

abbrev pub size_under : BundleDesk → ℕ
size_under d = (arc_value d.queue).size

-- how many seats the bundle has
abbrev pub width_of : BundleDesk → ℕ
width_of d = length d.bundle.names

-- ---- what is asked of the queue: the clauses of its burst calls, over the desk before and after

-- no burst is open: none of its calls in the queue, and no item of it waits for a place
abbrev pub IsResting : BundleDesk → Type 0
IsResting d = (d.bundle.state ≡ Idle) × (d.held.items ≡ [])

-- a burst is open, and nothing has changed
abbrev pub IsInBurst : BundleDesk → BundleDesk → Type 0
IsInBurst d e = (IsResting d → ⊥) × (e ≡ d)

abbrev pub IsNotFilling : BundleDesk → BundleDesk → Type 0
IsNotFilling d e = ((k f g : ℕ) → d.bundle.state ≢ Inserting k f g) × (e ≡ d)

-- no burst of deletions is open, and nothing has changed
abbrev pub IsNotTaking : BundleDesk → BundleDesk → Type 0
IsNotTaking d e = ((k f g : ℕ) → d.bundle.state ≢ Deleting k f g) × (d.held.items ≡ []) × (e ≡ d)

-- a burst of these items, of which no more take part than the bundle has seats
pub record AsksToInsertBurst (items : List ℕ) (answer : Result Burst BurstFault) (d e : BundleDesk) : Type 0 where
  pub idle : IsResting d
  pub none : e.held.items ≡ []
  pub state : MatchResult answer (λ b. e.bundle.state ≡ Inserting b.ticket 0 b.count) (λ _. e.bundle.state ≡ Idle)
  pub left : MatchResult answer (λ b. drawn_by_all e.bundle ≡ drawn_by_all d.bundle + b.count) (λ _. drawn_by_all e.bundle ≡ drawn_by_all d.bundle)
  pub call : MatchResult answer (λ b. ClaimsBurst (size_under d) (take (width_of d) items) b.ticket b.count d.bundle e.bundle)
      (RefusesBurst (size_under d) (length (take (width_of d) items)) d.bundle e.bundle)

-- `left` insertions of the open burst still wait, and the bundle holds no item
pub record AsksToFillBurst (left : ℕ) (d e : BundleDesk) : Type 0 where
  pub ticket : ℕ
  pub ended : ℕ
  pub granted : ℕ
  pub inserting : d.bundle.state ≡ Inserting ticket ended granted
  pub none : e.held.items ≡ []
  pub left_is : drawn_by_all e.bundle ≡ drawn_by_all d.bundle
  pub call : TriesToFill (size_under d) ticket ended granted left d.bundle e.bundle

pub record AsksToDeleteBurst (most : ℕ) (answer : Result Burst DeleteFault) (d e : BundleDesk) : Type 0 where
  pub idle : IsResting d
  pub none : e.held.items ≡ []
  pub next : MatchResult answer (λ b. e.next ≡ b.ticket) (λ _. e.next ≡ d.next)
  pub state : MatchResult answer (λ b. e.bundle.state ≡ Deleting b.ticket 0 b.count) (λ _. e.bundle.state ≡ Idle)
  pub left : MatchResult answer (λ b. drawn_by_all e.bundle ≡ drawn_by_all d.bundle + b.count) (λ _. drawn_by_all e.bundle ≡ drawn_by_all d.bundle)
  pub call : MatchResult answer (λ b. ClaimsBurstOut (size_under d) (min most (width_of d)) b.ticket b.count d.bundle e.bundle)
      (RefusesBurstOut (size_under d) (min most (width_of d)) d.bundle e.bundle)

-- the items ys of the open burst came out, and `left` deletions still wait
pub record AsksToTakeBurst (left : ℕ) (ys : List ℕ) (d e : BundleDesk) : Type 0 where
  pub ticket : ℕ
  pub ended : ℕ
  pub granted : ℕ
  pub deleting : d.bundle.state ≡ Deleting ticket ended granted
  pub left_is : drawn_by_all e.bundle ≡ drawn_by_all d.bundle
  pub call : TriesToTake (size_under d) ticket ended granted left ys d.bundle e.bundle

-- what is ready of an open burst came out of the queue, behind the items that the bundle held; `left` deletions are left there
pub record Fetches (left : ℕ) (d e : BundleDesk) : Type 0 where
  pub got : List ℕ
  pub held_is : e.held.items ≡ d.held.items ++ got
  pub next_is : e.next ≡ d.next
  pub left_is : left ≡ open_in e.bundle.state
  pub call : AsksToTakeBurst left got d e ⊎ ((d.bundle.state ≡ Idle) × (d.held.items ≢ []) × (got ≡ []) × (e.bundle ≡ d.bundle))

-- how many items of the burst were not handed out
abbrev pub waiting_of : BundleDesk → ℕ
waiting_of d = open_in d.bundle.state + length d.held.items

-- of the items that the bundle held and of those that came out of the queue, as many as there are places are in the first places, and
-- the others are held; the other places are as they were
pub record TakesOut (taken left : ℕ) (before after : List ℕ) (d e : BundleDesk) : Type 0 where
  pub mid : BundleDesk
  pub still : ℕ
  pub fetch : Fetches still d mid
  pub taken_is : taken ≡ min (length mid.held.items) (length before)
  pub places_are : after ≡ take taken mid.held.items ++ drop taken before
  pub held_is : e.held.items ≡ drop taken mid.held.items
  pub bundle_is : e.bundle ≡ mid.bundle
  pub next_is : e.next ≡ (d.next + taken) % 2 ^ 64
  pub left_is : left ≡ waiting_of e

-- ---- in one call

-- a claim, and one try to fill
pub record FillsBurstOnce (items : List ℕ) (burst : Burst) (left : ℕ) (d e : BundleDesk) : Type 0 where
  pub mid : BundleDesk
  pub claim : AsksToInsertBurst items (Ok burst) d mid
  pub try : AsksToFillBurst left mid e

abbrev pub AsksToInsertBurstOnce : List ℕ → Result (Burst × ℕ) BurstFault → BundleDesk → BundleDesk → Type 0
AsksToInsertBurstOnce items (Ok p) d e = FillsBurstOnce items p.0 p.1 d e
AsksToInsertBurstOnce items (Err f) d e = AsksToInsertBurst items (Err f) d e

-- a claim, and one try to take
pub record TakesBurstOnce (burst : Burst) (taken : ℕ) (before after : List ℕ) (d e : BundleDesk) : Type 0 where
  pub mid : BundleDesk
  pub left : ℕ
  pub claim : AsksToDeleteBurst (length before) (Ok burst) d mid
  pub try : TakesOut taken left before after mid e

abbrev pub AsksToDeleteBurstOnce : Result (Burst × ℕ) DeleteFault → List ℕ → List ℕ → BundleDesk → BundleDesk → Type 0
AsksToDeleteBurstOnce (Ok p) before after d e = TakesBurstOnce p.0 p.1 before after d e
AsksToDeleteBurstOnce (Err f) before after d e = AsksToDeleteBurst (length before) (Err f) d e × (after ≡ before)

-- ---- the results as codes

abbrev pub burst_fault_code : BurstFault → ℤ
burst_fault_code (Full u) = pos 2
burst_fault_code Closed = pos 4
burst_fault_code Worn = pos 5

abbrev pub burst_out_fault_code : DeleteFault → ℤ
burst_out_fault_code (deletion.Empty l) = pos 3
burst_out_fault_code deletion.Worn = pos 5

-- 0 if no call of the burst is left, and else 1
abbrev pub left_code : ℕ → ℤ
left_code left = cond (left == 0) (pos 0) (pos 1)

abbrev pub insert_burst_code : Option (Result (Burst × ℕ) BurstFault) → ℤ
insert_burst_code None = pos 7
insert_burst_code (Some (Ok p)) = left_code p.1
insert_burst_code (Some (Err f)) = burst_fault_code f

abbrev pub delete_burst_code : Option (Result (Burst × ℕ) DeleteFault) → ℤ
delete_burst_code None = pos 7
delete_burst_code (Some (Ok p)) = cond (p.1 == p.0.count) (pos 0) (pos 1)
delete_burst_code (Some (Err f)) = burst_out_fault_code f

abbrev pub fill_burst_code : Option ℕ → ℤ
fill_burst_code None = pos 7
fill_burst_code (Some left) = left_code left

abbrev pub take_burst_code : Option (ℕ × ℕ) → ℤ
take_burst_code None = pos 7
take_burst_code (Some p) = left_code p.1

-- what is written, else the number that was there

abbrev pub ticket_or : {F : Type 0} → ℕ → Option (Result (Burst × ℕ) F) → ℕ
ticket_or n (Some (Ok p)) = p.0.ticket
ticket_or n (Some (Err f)) = n
ticket_or n None = n

abbrev pub count_or : {F : Type 0} → ℕ → Option (Result (Burst × ℕ) F) → ℕ
count_or n (Some (Ok p)) = p.0.count
count_or n (Some (Err f)) = n
count_or n None = n

abbrev pub came_or : {F : Type 0} → ℕ → Option (Result (Burst × ℕ) F) → ℕ
came_or n (Some (Ok p)) = p.1
came_or n (Some (Err f)) = n
came_or n None = n

abbrev pub still_or : ℕ → Option ℕ → ℕ
still_or n (Some left) = left
still_or n None = n

abbrev pub taken_to_or : ℕ → Option (ℕ × ℕ) → ℕ
taken_to_or n (Some p) = p.0
taken_to_or n None = n

abbrev pub waiting_or : ℕ → Option (ℕ × ℕ) → ℕ
waiting_or n (Some p) = p.1
waiting_or n None = n

-- ---- the state of a bundle: 0 if no burst is open, 1 in a burst of insertions, 2 in one of deletions

abbrev pub code_at : BundleState → List ℕ → ℕ
code_at Idle [] = 0
code_at Idle (x ∷ xs) = 2
code_at (Inserting k f g) held = 1
code_at (Deleting k f g) held = 2

abbrev pub state_code : BundleDesk → ℕ
state_code d = code_at d.bundle.state d.held.items

-- the ticket of the first item that is not in its cell, or not handed out, as a word
abbrev pub ticket_at : ℕ → ℕ → BundleState → List ℕ → ℕ
ticket_at n next Idle [] = n
ticket_at n next Idle (x ∷ xs) = next
ticket_at n next (Inserting k f g) held = (k + f) % 2 ^ 64
ticket_at n next (Deleting k f g) held = next

abbrev pub next_ticket_or : ℕ → BundleDesk → ℕ
next_ticket_or n d = ticket_at n d.next d.bundle.state d.held.items

-- how many of these items there are
abbrev pub waiting_at : ℕ → BundleState → List ℕ → ℕ
waiting_at n Idle [] = n
waiting_at n Idle (x ∷ xs) = length (x ∷ xs)
waiting_at n (Inserting k f g) held = g - f
waiting_at n (Deleting k f g) held = (g - f) + length held

abbrev pub waiting_or_before : ℕ → BundleDesk → ℕ
waiting_or_before n d = waiting_at n d.bundle.state d.held.items

-- ---- the exported functions

-- of no items the code is 8, and nothing has changed
abbrev pub OfSome : ℕ → ℤ → Type 0 → BundleDesk → BundleDesk → Type 0 → Type 0
OfSome n code Kept d e Does = ((n ≡ 0) × (code ≡ pos 8) × Kept × (e ≡ d)) ⊎ ((0 < n) × Does)

pub record InsertsBurstItems (code : ℤ) (items : List ℕ) (ticket ticket' count count' : ℕ) (d e : BundleDesk) : Type 0 where
  pub answer : Option (Result (Burst × ℕ) BurstFault)
  pub code_is : code ≡ insert_burst_code answer
  pub ticket_is : ticket' ≡ ticket_or ticket answer
  pub count_is : count' ≡ count_or count answer
  pub call : MatchOption answer (IsInBurst d e) (λ r. AsksToInsertBurstOnce items r d e)

abbrev pub InsertsBurstOf : ℤ → List ℕ → ℕ → ℕ → ℕ → ℕ → BundleDesk → BundleDesk → Type 0
InsertsBurstOf code items ticket ticket' count count' d e =
    OfSome (length items) code ((ticket' ≡ ticket) × (count' ≡ count)) d e (InsertsBurstItems code items ticket ticket' count count' d e)

pub record FillsOpenBurst (code : ℤ) (left left' : ℕ) (d e : BundleDesk) : Type 0 where
  pub answer : Option ℕ
  pub code_is : code ≡ fill_burst_code answer
  pub left_is : left' ≡ still_or left answer
  pub call : MatchOption answer (IsNotFilling d e) (λ n. AsksToFillBurst n d e)

pub record DeletesBurstItems (code : ℤ) (before after : List ℕ) (ticket ticket' count count' taken taken' : ℕ) (d e : BundleDesk) : Type 0 where
  pub answer : Option (Result (Burst × ℕ) DeleteFault)
  pub code_is : code ≡ delete_burst_code answer
  pub ticket_is : ticket' ≡ ticket_or ticket answer
  pub count_is : count' ≡ count_or count answer
  pub taken_is : taken' ≡ came_or taken answer
  pub call : MatchOption answer (IsInBurst d e × (after ≡ before)) (λ r. AsksToDeleteBurstOnce r before after d e)

abbrev pub DeletesBurstTo : ℤ → List ℕ → List ℕ → ℕ → ℕ → ℕ → ℕ → ℕ → ℕ → BundleDesk → BundleDesk → Type 0
DeletesBurstTo code before after ticket ticket' count count' taken taken' d e =
    OfSome (length before) code ((after ≡ before) × (ticket' ≡ ticket) × (count' ≡ count) × (taken' ≡ taken)) d e
    (DeletesBurstItems code before after ticket ticket' count count' taken taken' d e)

pub record TakesOpenBurst (code : ℤ) (before after : List ℕ) (taken taken' left left' : ℕ) (d e : BundleDesk) : Type 0 where
  pub answer : Option (ℕ × ℕ)
  pub code_is : code ≡ take_burst_code answer
  pub taken_is : taken' ≡ taken_to_or taken answer
  pub left_is : left' ≡ waiting_or left answer
  pub call : MatchOption answer (IsNotTaking d e × (after ≡ before)) (λ r. TakesOut r.0 r.1 before after d e)

-- nothing has changed, and what was written is the state of the bundle
pub record LooksAtBundle (code : ℤ) (state ticket ticket' waiting waiting' width left : ℕ) (d e : BundleDesk) : Type 0 where
  pub code_is : code ≡ pos 0
  pub same : e ≡ d
  pub state_is : state ≡ state_code d
  pub ticket_is : ticket' ≡ next_ticket_or ticket d
  pub waiting_is : waiting' ≡ waiting_or_before waiting d
  pub width_is : width ≡ width_of d
  pub left_is : left + drawn_by_all d.bundle ≡ d.bundle.stint
