-- Blocks of a queue core: steps of several seats in a row, one step of each seat. One fetch-and-add of d to a count
-- performs a block of d such steps at once.
use Rattle.std.specs.Prelude.{ℕ, ◌+◌, ◌≡◌, ◌⊎◌, ℤ, pos, ◌+ℤ◌, ◌-ℤ◌, ◌≤ℤ◌, Some, List, [], ◌∷◌, ◌++◌, length, reverse, false}
use Rattle.fak_model.specs.declared.queue.Kind.{Kind}
use Rattle.fak_model.specs.declared.queue.Kind.TheVariants as made
use Rattle.fak_model.specs.declared.queue.Mark.{Mark}
use Rattle.fak_model.specs.Queue.{item_at, items_put}
pub use Rattle.fak_model.specs.Seats.{AreApart}
use Rattle.fak_model.specs.Seats.{In}
use Rattle.fak_core.specs.declared.queue.phase.Phase.{Phase}
use Rattle.fak_core.specs.declared.queue.phase.Phase.TheVariants.{Idle, TestUp, AddUp, BackUp, TicketIn, TurnIn, EndInsert, TestLow, SubLow, BackLow, TicketOut, TurnOut, EndDelete}
use Rattle.fak_core.specs.QueueMoves.{QueueState, with_phase}
use Rattle.fak_core.specs.QueueSchedule.{QueueEvent, Inserts, Deletes, Advances, IsReached, move_from, run}

-- ---- seats

-- the names of seats, each with its phase
abbrev pub Posts : Type 0 → Type 0
Posts A = List (ℕ × Phase A)

abbrev pub names_of : {B : Type 0} → List (ℕ × B) → List ℕ
names_of [] = []
names_of (s ∷ seats) = s.0 ∷ names_of seats

-- each seat is in its phase
abbrev pub Stand : {A : Type 0} → QueueState A → Posts A → Type 0
Stand st [] = Unit {0}
Stand st (s ∷ seats) = (st.phase s.0 ≡ s.1) × Stand st seats

-- seats with a value each, all in phases of one kind
abbrev pub all_at : {A B : Type 0} → (B → Phase A) → List (ℕ × B) → Posts A
all_at f [] = []
all_at f (s ∷ seats) = (s.0, f s.1) ∷ all_at f seats

-- insertions that have drawn the tickets from k on
abbrev pub turns_from : {A : Type 0} → ℕ → List (ℕ × A) → Posts A
turns_from k [] = []
turns_from k (s ∷ seats) = (s.0, TurnIn k s.1) ∷ turns_from (k + 1) seats

-- deletions that have drawn the tickets from k on
abbrev pub turns_out_from : {A B : Type 0} → ℕ → List (ℕ × B) → Posts A
turns_out_from k [] = []
turns_out_from k (s ∷ seats) = (s.0, TurnOut k) ∷ turns_out_from (k + 1) seats

-- one mark of each seat, that of the last seat first
abbrev pub marks_back : {A B : Type 0} → (B → Kind A) → List (ℕ × B) → List (Mark A)
marks_back f [] = []
marks_back f (s ∷ seats) = marks_back f seats ++ record { seat = s.0; kind = f s.1 } ∷ []

-- ---- blocks

-- the state after each of these seats has taken the step of its phase, in this order
abbrev pub block : {A : Type 0} → ℕ → QueueState A → Posts A → QueueState A
block size st [] = st
block size st (s ∷ seats) = block size (move_from size st s.0 s.1) seats

-- the state after each of these idle seats has begun an insertion and tested the upper count, in this order
abbrev pub tested : {A : Type 0} → ℕ → QueueState A → List (ℕ × A) → QueueState A
tested size st [] = st
tested size st (s ∷ seats) = tested size (move_from size (with_phase st s.0 (TestUp s.1)) s.0 (TestUp s.1)) seats

-- the same for deletions and the lower count
abbrev pub tested_low : {A B : Type 0} → ℕ → QueueState A → List (ℕ × B) → QueueState A
tested_low size st [] = st
tested_low size st (s ∷ seats) = tested_low size (move_from size (with_phase st s.0 TestLow) s.0 TestLow) seats

-- the events of these blocks
abbrev pub next_steps : {A : Type 0} → List ℕ → List (QueueEvent A)
next_steps [] = []
next_steps (n ∷ names) = Advances n ∷ next_steps names

abbrev pub insertion_tests : {A : Type 0} → List (ℕ × A) → List (QueueEvent A)
insertion_tests [] = []
insertion_tests (s ∷ seats) = Inserts s.0 s.1 ∷ Advances s.0 ∷ insertion_tests seats

abbrev pub deletion_tests : {A : Type 0} → List ℕ → List (QueueEvent A)
deletion_tests [] = []
deletion_tests (n ∷ names) = Deletes n ∷ Advances n ∷ deletion_tests names

-- these events lead from one state to another; if the first is a reached state, so is the second
pub record LeadTo {A : Type 0} (size : ℕ) (st : QueueState A) (events : List (QueueEvent A)) (after : QueueState A) : Type 0 where
  pub leads : run size events st ≡ after
  pub reached : IsReached size st → IsReached size after

-- what a block changes: the counts and ticket counters become these, these marks are added, newest first, and these
-- seats are in these phases; all else stays the same
pub record Changes {A : Type 0} (st after : QueueState A) (marks : List (Mark A)) (upper lower : ℤ) (draws_in draws_out : ℕ) (posts : Posts A) : Type 0 where
  pub upper_is : after.upper ≡ upper
  pub lower_is : after.lower ≡ lower
  pub draws_in_is : after.draws_in ≡ draws_in
  pub draws_out_is : after.draws_out ≡ draws_out
  pub turn_is : after.turn ≡ st.turn
  pub cell_is : after.cell ≡ st.cell
  pub shut_is : after.shut ≡ st.shut
  pub past_is : after.past ≡ marks ++ st.past
  pub stand : Stand after posts
  pub others : (n : ℕ) → (In n (names_of posts) → ⊥) → after.phase n ≡ st.phase n

-- ---- insertions, each seat with its item

-- one load tests the upper count for these seats, which leave these marks and are in these phases afterwards
abbrev pub AreTested : {A : Type 0} → ℕ → QueueState A → List (ℕ × A) → List (Mark A) → (A → Phase A) → Type 0
AreTested size st seats marks at = Changes st (tested size st seats) marks st.upper st.lower st.draws_in st.draws_out (all_at at seats)

-- one add of 1 for each of these seats to the upper count of an open queue: the first ones are granted, as many as
-- there is room for, and the others are refused
pub record Grants {A : Type 0} (size : ℕ) (st : QueueState A) (granted over : List (ℕ × A)) : Type 0 where
  pub opened : st.shut ≡ false
  pub room : (granted ≡ []) ⊎ ((st.upper +ℤ pos (length granted)) ≤ℤ pos size)
  pub full : (over ≡ []) ⊎ (pos size ≤ℤ (st.upper +ℤ pos (length granted)))

abbrev pub after_adds : {A : Type 0} → ℕ → QueueState A → List (ℕ × A) → QueueState A
after_adds size st seats = block size st (all_at (λ x. AddUp x) seats)

-- the granted ones draw their tickets next, and the others withdraw
abbrev pub AreAdded : {A : Type 0} → ℕ → QueueState A → List (ℕ × A) → List (ℕ × A) → Type 0
AreAdded size st granted over =
    Changes st (after_adds size st (granted ++ over)) (marks_back (λ x. made.OverIn) over ++ marks_back (λ x. made.ClaimIn) granted)
    (st.upper +ℤ pos (length (granted ++ over))) st.lower st.draws_in st.draws_out (all_at (λ x. TicketIn x) granted ++ all_at (λ x. BackUp x) over)

-- the queue was shut: all withdraw next
abbrev pub AreLate : {A : Type 0} → ℕ → QueueState A → List (ℕ × A) → Type 0
AreLate size st seats =
    Changes st (after_adds size st seats) (marks_back (λ x. made.LateIn) seats) (st.upper +ℤ pos (length seats)) st.lower st.draws_in st.draws_out (all_at (λ x. BackUp x) seats)

-- one subtraction from the upper count withdraws the insertions of these seats
abbrev pub after_backs : {A : Type 0} → ℕ → QueueState A → List (ℕ × A) → QueueState A
after_backs size st seats = block size st (all_at (λ x. BackUp x) seats)

abbrev pub AreWithdrawn : {A : Type 0} → ℕ → QueueState A → List (ℕ × A) → Type 0
AreWithdrawn size st seats =
    Changes st (after_backs size st seats) (marks_back (λ x. made.BackIn) seats) (st.upper -ℤ pos (length seats)) st.lower st.draws_in st.draws_out (all_at (λ x. Idle) seats)

-- one add to the counter of insertions draws a ticket for each of these seats, in their order
abbrev pub after_draws : {A : Type 0} → ℕ → QueueState A → List (ℕ × A) → QueueState A
after_draws size st seats = block size st (all_at (λ x. TicketIn x) seats)

abbrev pub AreDrawn : {A : Type 0} → ℕ → QueueState A → List (ℕ × A) → Type 0
AreDrawn size st seats =
    Changes st (after_draws size st seats) (marks_back (λ x. made.Put x) seats) st.upper st.lower (st.draws_in + length seats) st.draws_out (turns_from st.draws_in seats)

-- one add to the lower count ends the insertions of these seats, each with its ticket
abbrev pub after_ends : {A : Type 0} → ℕ → QueueState A → List (ℕ × ℕ) → QueueState A
after_ends size st seats = block size st (all_at (λ k. EndInsert k) seats)

abbrev pub AreEnded : {A : Type 0} → ℕ → QueueState A → List (ℕ × ℕ) → Type 0
AreEnded size st seats =
    Changes st (after_ends size st seats) (marks_back (λ k. made.EndIn) seats) st.upper (st.lower +ℤ pos (length seats)) st.draws_in st.draws_out (all_at (λ k. Idle) seats)

-- ---- deletions, each seat with any value, or with its ticket

-- one load tests the lower count for these seats
abbrev pub AreTestedLow : {A B : Type 0} → ℕ → QueueState A → List (ℕ × B) → List (Mark A) → (B → Phase A) → Type 0
AreTestedLow size st seats marks at = Changes st (tested_low size st seats) marks st.upper st.lower st.draws_in st.draws_out (all_at at seats)

-- one subtraction of 1 for each of these seats from the lower count: the first ones are granted, as many as there are
-- items, and the others are refused
pub record GrantsLow {A B : Type 0} (st : QueueState A) (granted over : List (ℕ × B)) : Type 0 where
  pub stock : (granted ≡ []) ⊎ (pos (length granted) ≤ℤ st.lower)
  pub empty : (over ≡ []) ⊎ (st.lower ≤ℤ pos (length granted))

abbrev pub after_subs : {A B : Type 0} → ℕ → QueueState A → List (ℕ × B) → QueueState A
after_subs size st seats = block size st (all_at (λ x. SubLow) seats)

-- the granted ones draw their tickets next, and the others withdraw
abbrev pub AreSubtracted : {A B : Type 0} → ℕ → QueueState A → List (ℕ × B) → List (ℕ × B) → Type 0
AreSubtracted size st granted over =
    Changes st (after_subs size st (granted ++ over)) (marks_back (λ x. made.OverOut) over ++ marks_back (λ x. made.ClaimOut) granted)
    st.upper (st.lower -ℤ pos (length (granted ++ over))) st.draws_in st.draws_out (all_at (λ x. TicketOut) granted ++ all_at (λ x. BackLow) over)

-- one add to the lower count withdraws the deletions of these seats
abbrev pub AreWithdrawnOut : {A B : Type 0} → ℕ → QueueState A → List (ℕ × B) → Type 0
AreWithdrawnOut size st seats =
    Changes st (block size st (all_at (λ x. BackLow) seats)) (marks_back (λ x. made.BackOut) seats) st.upper (st.lower +ℤ pos (length seats)) st.draws_in st.draws_out (all_at (λ x. Idle) seats)

-- these items were put under the tickets from k on; the past has its newest mark first
abbrev pub ArePut : {A : Type 0} → List (Mark A) → ℕ → List (ℕ × A) → Type 0
ArePut past k [] = Unit {0}
ArePut past k (s ∷ seats) = (item_at (items_put (reverse past)) k ≡ Some s.1) × ArePut past (k + 1) seats

-- one add to the counter of deletions draws a ticket for each of these seats, in their order; the Got of each has the
-- item that was put under its ticket
pub record AreDrawnOut {A B : Type 0} (size : ℕ) (st : QueueState A) (seats : List (ℕ × B)) : Type 0 where
  pub items : List (ℕ × A)
  pub names : names_of items ≡ names_of seats
  pub put : ArePut st.past st.draws_out items
  pub changes : Changes st (block size st (all_at (λ x. TicketOut) seats)) (marks_back (λ x. made.Got x) items) st.upper st.lower st.draws_in (st.draws_out + length seats) (turns_out_from st.draws_out seats)

-- one subtraction from the upper count ends the deletions of these seats, each with its ticket
abbrev pub AreEndedOut : {A : Type 0} → ℕ → QueueState A → List (ℕ × ℕ) → Type 0
AreEndedOut size st seats =
    Changes st (block size st (all_at (λ k. EndDelete k) seats)) (marks_back (λ k. made.EndOut) seats) (st.upper -ℤ pos (length seats)) st.lower st.draws_in st.draws_out (all_at (λ k. Idle) seats)
