-- What callers see of a bundle of seats, and what a bundle keeps. Histories have the oldest mark first.
use Rattle.std.specs.Prelude.{◌≡◌, ◌⊎◌, ℕ, ◌+◌, ◌<◌, ◌≤◌, ◌^◌, List, [], ◌∷◌, length, reverse, Some}
use Rattle.std.specs.List.{sum_by}
use Rattle.fak_model.specs.Limits.{large_seats}
use Rattle.fak_model.specs.declared.queue.Kind.TheVariants as made
use Rattle.fak_model.specs.declared.queue.Mark.{Mark}
use Rattle.fak_model.specs.Calls.{ObjectId, SeatInfo, seat_info}
use Rattle.fak_model.specs.Histories.{Owes, seat_words}
use Rattle.fak_model.specs.Queue.{queue_rules, item_at, words_of_call, puts, gots, Drew}
use Rattle.fak_model.specs.Seats.{In, marks_of}
use Rattle.fak_core.specs.declared.queue.phase.Phase.TheVariants as phase
use Rattle.fak_core.specs.QueueBlocks.{AreApart}
use Rattle.fak_queue.specs.declared.bundle.BundleState.{BundleState}
use Rattle.fak_queue.specs.declared.bundle.BundleState.TheVariants.{Idle, Inserting, Deleting}
use Rattle.fak_queue.specs.declared.phases.Phases.TheVariants.{Alike}
use Rattle.fak_queue.specs.Shown.{QueueHolder}
use Rattle.fak_queue.specs.Queues.{AreIdle, drawn_by, seat_of, tickets_in}
use Rattle.fak_queue.specs.Bundles.{IsLawful, Filling, Emptying}

-- ---- bundles

-- a bundle: its object, the names of its seats in the order in which they take tickets, the stint that these share, its standing,
-- and the history that it has seen
pub record BundleInfo (M : Type 0) : Type 0 where
  pub object : ObjectId
  pub names : List ℕ
  pub stint : ℕ
  pub state : BundleState
  pub seen : List M

abbrev pub bundle_info : {M : Type 0} → ObjectId → List ℕ → ℕ → BundleState → List M → BundleInfo M
bundle_info object names stint state seen = record { object = object; names = names; stint = stint; state = state; seen = seen }

-- the seat of this name in the bundle, which has seen what the bundle has seen
abbrev pub seat_in : {M : Type 0} → BundleInfo M → ℕ → SeatInfo M
seat_in b name = seat_info b.object name b.stint b.seen

-- the tickets that its seats have drawn
abbrev pub drawn_by_all : {T : Type 0} → BundleInfo (Mark T) → ℕ
drawn_by_all b = sum_by (λ (n : ℕ). drawn_by (seat_in b n)) b.names

-- the bundle belongs to this object, and is between two calls
abbrev pub IsIdleBundle : {M : Type 0} → ObjectId → BundleInfo M → Type 0
IsIdleBundle object b = (b.object ≡ object) × (b.state ≡ Idle)

-- no call of this name is cut short
abbrev pub HasEnded : {T : Type 0} → ℕ → List (Mark T) → Type 0
HasEnded n h = Owes words_of_call (seat_words (queue_rules 0) n h) []

-- the seats from number `ended` up to `granted` have open calls: the last mark of each is the draw of its ticket, and these follow
-- one another from k on. No call of the other seats is cut short.
pub record AreOpen {T : Type 0} (HasDrawn : ℕ → ℕ → Type 0) (k ended granted : ℕ) (b : BundleInfo (Mark T)) : Type 0 where
  pub some : ended < granted
  pub most : granted ≤ length b.names
  pub drew : (i n : ℕ) → item_at b.names i ≡ Some n → ended ≤ i → i < granted → HasDrawn n (k + i)
  pub done : (i n : ℕ) → item_at b.names i ≡ Some n → (i < ended) ⊎ (granted ≤ i) → HasEnded n b.seen

-- the state of the bundle, in the terms of histories
abbrev pub IsBundleState : {T : Type 0} → BundleInfo (Mark T) → BundleState → Type 0
IsBundleState b Idle = AreIdle b.names b.seen
IsBundleState {T} b (Inserting k ended granted) = AreOpen (λ n ticket. (x : T) × Drew b.seen n (made.Put x) puts ticket) k ended granted b
IsBundleState {T} b (Deleting k ended granted) = AreOpen (λ n ticket. (x : T) × Drew b.seen n (made.Got x) gots ticket) k ended granted b

-- ---- what the type keeps

-- the tickets that these names drew
abbrev pub tickets_of_all : {T : Type 0} → List ℕ → List (Mark T) → ℕ
tickets_of_all names h = sum_by (λ (n : ℕ). tickets_in (marks_of seat_of n h)) names

-- a bundle of this object, names and view, with this many tickets left of its stint
abbrev pub queue_bundle : {T : Type 0} → ObjectId → List ℕ → ℕ → BundleState → QueueHolder T → BundleInfo (Mark T)
queue_bundle object names left state me = bundle_info object names (left + tickets_of_all names (reverse me.0.seen)) state (reverse me.0.seen)

-- the name has drawn the ticket of its insertion, or of its deletion, and is not yet done at its cell
abbrev pub IsToFill : {T : Type 0} → ℕ → List (Mark T) → Type 0
IsToFill n h = Owes words_of_call (seat_words (queue_rules 0) n h) (made.Fill 0 ∷ made.EndIn ∷ [])

abbrev pub IsToTake : {T : Type 0} → ℕ → List (Mark T) → Type 0
IsToTake n h = Owes words_of_call (seat_words (queue_rules 0) n h) (made.Take 0 ∷ made.EndOut ∷ [])

-- all names are at rest
pub record AllRest {T : Type 0} (names : List ℕ) (kept : List T) (me : QueueHolder T) : Type 0 where
  pub phase : me.0.phase ≡ Some (Alike phase.Idle)
  pub none : kept ≡ []
  pub ended : AreIdle names (reverse me.0.seen)

-- the first names have drawn the tickets from k on for insertions; those from `ended` on keep their items until they fill their cells
pub record AreInserting {T : Type 0} (names : List ℕ) (k ended granted : ℕ) (kept : List T) (me : QueueHolder T) : Type 0 where
  pub some : ended < granted
  pub few : k + granted ≤ 2 ^ 50
  pub stands : Filling names k ended ended granted kept me.0
  pub done : (i n : ℕ) → item_at names i ≡ Some n → (i < ended) ⊎ (granted ≤ i) → HasEnded n (reverse me.0.seen)
  pub waits : (i n : ℕ) → item_at names i ≡ Some n → ended ≤ i → i < granted → IsToFill n (reverse me.0.seen)
  pub drew : (i n : ℕ) → item_at names i ≡ Some n → ended ≤ i → i < granted → (x : T) × Drew (reverse me.0.seen) n (made.Put x) puts (k + i)

-- the same for deletions
pub record AreDeleting {T : Type 0} (names : List ℕ) (k ended granted : ℕ) (kept : List T) (me : QueueHolder T) : Type 0 where
  pub some : ended < granted
  pub few : k + granted ≤ 2 ^ 50
  pub none : kept ≡ []
  pub stands : Emptying names k ended ended granted me.0
  pub done : (i n : ℕ) → item_at names i ≡ Some n → (i < ended) ⊎ (granted ≤ i) → HasEnded n (reverse me.0.seen)
  pub waits : (i n : ℕ) → item_at names i ≡ Some n → ended ≤ i → i < granted → IsToTake n (reverse me.0.seen)
  pub drew : (i n : ℕ) → item_at names i ≡ Some n → ended ≤ i → i < granted → (x : T) × Drew (reverse me.0.seen) n (made.Got x) gots (k + i)

abbrev pub StandsAs : {T : Type 0} → BundleState → List ℕ → List T → QueueHolder T → Type 0
StandsAs Idle names kept me = AllRest names kept me
StandsAs (Inserting k ended granted) names kept me = AreInserting names k ended granted kept me
StandsAs (Deleting k ended granted) names kept me = AreDeleting names k ended granted kept me

-- what a bundle of a queue of this size keeps, which has room for this many items
pub record IsQueueBundle {T : Type 0} (size seats : ℕ) (names : List ℕ) (capacity : ℕ) (kept : List T) (state : BundleState) (left : ℕ) (me : QueueHolder T) : Type 0 where
  pub names_are : me.0.names ≡ names
  pub apart : AreApart names
  pub below : (n : ℕ) → In n names → n < seats
  pub some : 0 < length names
  pub few : length names ≤ large_seats
  pub few_seats : seats ≤ large_seats
  pub left_is : me.0.left ≡ left
  pub slots : me.1 ≡ []
  pub lawful : IsLawful size seats me.0
  pub room : length names ≤ capacity
  pub stands : StandsAs state names kept me
