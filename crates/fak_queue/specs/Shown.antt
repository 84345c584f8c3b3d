-- How a table of words and slots shows a queue.
use Rattle.std.specs.Prelude.{◌≡◌, ◌⊎◌, ℕ, ◌+◌, ◌*◌, ◌<◌, ◌≤◌, List, [], ◌∷◌, length, Option, None}
use mathlib.Core.Option.{some, none}
use mathlib.Core.Option as maybe
use lib.ListN.{get_elem?}
use Rattle.atomic_table.specs.Table.{State, Me}
use Rattle.fak_model.specs.Limits.{large_seats, large_size, most_tickets}
use Rattle.fak_model.specs.declared.queue.Mark.{Mark}
use Rattle.fak_model.specs.declared.view.View.{View}
use Rattle.fak_model.specs.Queue.{Word, WholeCall, count, puts, gots, queue_rules}
use Rattle.fak_model.specs.Views.{opened, sight as view}
use Rattle.fak_model.specs.Shown.{Object, IsShown, Leaves as Left}
use Rattle.fak_core.specs.declared.queue.phase.Phase.{Phase}
use Rattle.fak_core.specs.declared.queue.phase.Phase.TheVariants.{Idle}
use Rattle.fak_core.specs.QueueMoves.{QueueState}
use Rattle.fak_core.specs.QueueProgress.{AreIdleFrom}
use Rattle.fak_core.specs.QueueSchedule.{InCell, IsReached}
use Rattle.fak_core.specs.QueueBlocks.{Posts}
use Rattle.fak_queue.specs.declared.phases.Phases.{Phases}
use Rattle.fak_queue.specs.declared.phases.Phases.TheVariants.{Alike, Each}
use Rattle.fak_queue.specs.declared.limits.QueueLimits.{QueueLimits}
use Rattle.fak_model.specs.declared.note.Note.{Note}
use Rattle.fak_queue.specs.Words.{AreWords}
use Rattle.fak_queue.specs.Sleepers.{AreSleepers}

-- what a seat of a queue knows, with the slots that it holds
abbrev pub QueueView : Type 0 → Type 0
QueueView T = View (Mark T) (Phases T)

abbrev pub QueueHolder : Type 0 → Type 0
QueueHolder T = Me (Option T) (QueueView T)

-- the posts state that the name is at this phase
abbrev pub IsPost : {T : Type 0} → ℕ → Phase T → Posts T → Type 0
IsPost n p [] = ⊥
IsPost n p (s ∷ ss) = ((s.0 ≡ n) × (s.1 ≡ p)) ⊎ IsPost n p ss

-- the phase of the name, as this standing states it
abbrev pub StandsIn : {T : Type 0} → QueueState T → ℕ → Phases T → Type 0
StandsIn core n (Alike p) = core.phase n ≡ p
StandsIn {T} core n (Each ps) = (p : Phase T) → IsPost n p ps → core.phase n ≡ p

-- a view whose names are all at this phase, which has compared nothing
abbrev pub sight : {T : Type 0} → List ℕ → Option (List Note) → List (Mark T) → Phase T → ℕ → QueueView T
sight names noted seen p left = view names noted seen (Alike p) left

-- a slot at home has its cell's content if the turn is odd, and nothing if it is even
pub record IsAtHome {T : Type 0} (turn : ℕ) (content : Option T) (home : maybe.Option (maybe.Option (Option T))) : Type 0 where
  pub odd : (q : ℕ) → turn ≡ 2 * q + 1 → home ≡ some (some content)
  pub even : (q : ℕ) → turn ≡ 2 * q → home ≡ some (some None)

-- the slot of a cell is out exactly while a seat is in the cell
abbrev pub HasSlot : {T : Type 0} → ℕ → QueueState T → List (maybe.Option (Option T)) → ℕ → Type 0
HasSlot size core homes cell =
    (IsAtHome (core.turn cell) (core.cell cell) (get_elem? homes cell) × ((seat : ℕ) → InCell size (core.phase seat) cell → ⊥))
    ⊎ ((seat : ℕ) × InCell size (core.phase seat) cell × (get_elem? homes cell ≡ some none))

-- the words and the slots show this state of a queue of this size, and its sleepers, whose seats have these notes
pub record IsEncoded {T : Type 0} (size seats : ℕ) (core : QueueState T) (notes : ℕ → List Note) (words : List ℕ) (homes : List (maybe.Option (Option T))) : Type 0 where
  pub some_cell : 0 < size
  pub few_cells : size ≤ large_size
  pub few_seats : seats ≤ large_seats
  pub words_are : AreWords size core.upper core.lower core.draws_in core.draws_out core.turn core.shut words
  pub wide : length homes ≡ size
  pub slots_are : (cell : ℕ) → cell < size → HasSlot size core homes cell
  pub sleepers : AreSleepers size seats core notes words

-- some schedule leads to this state, in which no name from the number of seats on has a call
pub record IsReachedBy {T : Type 0} (size seats : ℕ) (core : QueueState T) : Type 0 where
  pub reached : IsReached size core
  pub beyond : AreIdleFrom seats core

-- a queue of this size with these seats; at most 2^50 tickets are ever drawn
abbrev pub queue_object : {T : Type 0} → ℕ → ℕ → Object (Mark T) Word WholeCall (Phases T) (QueueState T) (Option T)
queue_object {T} size seats = record {
  rules = queue_rules size;
  seats = seats;
  tickets = most_tickets;
  drawn_of = λ (core : QueueState T). count puts core.past + count gots core.past;
  past_of = λ (core : QueueState T). core.past;
  IsReached = IsReachedBy size seats;
  StandsAt = StandsIn;
  Encodes = IsEncoded size seats;
}

abbrev pub IsShownQueue : {T : Type 0} → QueueLimits → State (Option T) (QueueView T) → Type 0
IsShownQueue key s = IsShown (queue_object key.size key.seats) s

abbrev pub opened_queue : {T : Type 0} → QueueLimits → QueueView T
opened_queue key = opened (Alike Idle) key.seats (key.seats * key.stint)

-- a step that leaves all names of the view at this phase
abbrev pub Leaves : {T : Type 0} → Object (Mark T) Word WholeCall (Phases T) (QueueState T) (Option T) → QueueHolder T → List (Mark T) → Phase T → ℕ → List (ℕ × Option T) → (List (Mark T) → Type 0) → QueueHolder T → Type 0
Leaves object m new p left carried tells after = Left object m new (Alike p) left carried tells after
