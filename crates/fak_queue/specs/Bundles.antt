-- What the parts of a burst's calls leave at the token of a bundle, name by name.
use Rattle.std.specs.Prelude.{◌≡◌, ◌^◌, take, ℤ, ◌≢◌, ◌⊎◌, ℕ, ◌+◌, ◌-◌, ◌%◌, ◌<◌, ◌≤◌, Bool, true, false, List, [], ◌∷◌, ◌++◌, drop, length, reverse, Option, Some, None}
use Rattle.fak_model.specs.declared.queue.Kind.TheVariants as made
use Rattle.fak_model.specs.declared.queue.Mark.{Mark}
use Rattle.fak_model.specs.declared.queue.Kind.{Kind}
use Rattle.fak_model.specs.Histories.{AreNamed, IsHistory}
use Rattle.fak_model.specs.Seats.{Begins, marks_of}
use Rattle.fak_model.specs.Calls.{last_of}
use Rattle.fak_model.specs.Queue.{items_put, item_at, Has, Drew, queue_rules, count, puts, gots, upper_count, lower_count}
use Rattle.fak_core.specs.declared.queue.phase.Phase.{Phase}
use Rattle.fak_core.specs.declared.queue.phase.Phase.TheVariants.{Idle, TurnIn, StoreItem, EndInsert, TurnOut, LoadItem, EndDelete}
use Rattle.fak_core.specs.QueueBlocks.{Posts}
use Rattle.fak_queue.specs.declared.phases.Phases.TheVariants.{Alike, Each}
use Rattle.fak_queue.specs.Shown.{QueueView, QueueHolder, IsPost}
use Rattle.fak_queue.specs.Steps.{mark}
use Rattle.fak_queue.specs.declared.found.NoRoom.{NoRoom}
use Rattle.fak_queue.specs.declared.found.NoRoom.TheVariants.{Full, Shut}
use Rattle.fak_queue.specs.Bursts.{LeavesMarks}
use Rattle.fak_queue.specs.Queues.{seat_of, made_by}
use Rattle.fak_queue.specs.Parts.{before_part}

-- the view states that this name is at phase p
abbrev pub SaysOf : {T : Type 0} → QueueView T → ℕ → Phase T → Type 0
SaysOf {T} v n p = (all : Posts T) × (v.phase ≡ Some (Each all)) × IsPost n p all

-- one name went on to q and left these marks, newest first; the token then carries these slots; the other names keep their phases
pub record StepsOn {T : Type 0} (size seats n : ℕ) (q : Phase T) (new : List (Mark T)) (carried : List (ℕ × Option T)) (m after : QueueHolder T) : Type 0 where
  pub here : SaysOf after.0 n q
  pub others : (t : ℕ) (w : Phase T) → t ≢ n → SaysOf m.0 t w → SaysOf after.0 t w
  pub left : after.0.left ≡ m.0.left
  pub carries : after.1 ≡ carried
  pub makes : LeavesMarks size seats new (m.0, []) (after.0, [])

module _ {T : Type 0} (size seats n k : ℕ) where
  -- the insertion with ticket k waits: the round before was not taken from its cell
  pub record StaysIn (x : T) (m after : QueueHolder T) : Type 0 where
    pub steps : StepsOn size seats n (TurnIn k x) [] m.1 m after
    pub earlier : ℕ
    pub round : k ≡ earlier + size
    pub untaken : Has (made.Take earlier) (reverse after.0.seen) → ⊥

  -- a look at the cell of an insertion: the name has its slot, or waits
  abbrev pub LooksAtIn : T → Bool → QueueHolder T → QueueHolder T → Type 0
  LooksAtIn x true m after = StepsOn size seats n (StoreItem k x) [] ((k % size, None) ∷ m.1) m after
  LooksAtIn x false m after = StaysIn x m after

  -- the item was moved into the cell
  abbrev pub FillsIt : QueueHolder T → QueueHolder T → Type 0
  FillsIt m after = StepsOn size seats n (EndInsert k) (mark n (made.Fill k) ∷ []) [] m after

  -- the deletion with ticket k waits: its cell was not filled
  pub record StaysOut (m after : QueueHolder T) : Type 0 where
    pub steps : StepsOn size seats n (TurnOut k) [] m.1 m after
    pub unfilled : Has (made.Fill k) (reverse after.0.seen) → ⊥

  -- the name has the slot with the item that was put under its ticket
  pub record FindsItem (m after : QueueHolder T) : Type 0 where
    pub item : T
    pub steps : StepsOn size seats n (LoadItem k) [] ((k % size, Some item) ∷ m.1) m after
    pub put : item_at (items_put (reverse after.0.seen)) k ≡ Some item

  -- a look at the cell of a deletion
  abbrev pub LooksAtOut : Bool → QueueHolder T → QueueHolder T → Type 0
  LooksAtOut true m after = FindsItem m after
  LooksAtOut false m after = StaysOut m after

  -- the item was moved out of the cell
  abbrev pub TakesIt : QueueHolder T → QueueHolder T → Type 0
  TakesIt m after = StepsOn size seats n (EndDelete k) (mark n (made.Take k) ∷ []) [] m after

-- ---- the names of a bundle, counted from 0 in the order in which they take tickets

-- what the view has seen is lawful, and its marks belong to the object's seats
pub record IsLawful {T : Type 0} (size seats : ℕ) (v : QueueView T) : Type 0 where
  pub lawful : IsHistory (queue_rules size) (reverse v.seen)
  pub named : AreNamed (queue_rules size) seats (reverse v.seen)

-- between two states of a token the names from lo to hi left marks of these kinds each, and the others none
pub record MadeFrom {T : Type 0} (size seats : ℕ) (names : List ℕ) (lo hi : ℕ) (kinds_at : ℕ → List (Kind T)) (m after : QueueHolder T) : Type 0 where
  pub names_are : after.0.names ≡ m.0.names
  pub left : after.0.left ≡ m.0.left
  pub begins : Begins (reverse m.0.seen) (reverse after.0.seen)
  pub inside : (i n : ℕ) → item_at names i ≡ Some n → lo ≤ i → i < hi → marks_of seat_of n (reverse after.0.seen) ≡ marks_of seat_of n (reverse m.0.seen) ++ made_by n (kinds_at i)
  pub outside : (i n : ℕ) → item_at names i ≡ Some n → (i < lo) ⊎ (hi ≤ i) → marks_of seat_of n (reverse after.0.seen) ≡ marks_of seat_of n (reverse m.0.seen)
  pub lawful : IsLawful size seats after.0

-- the phases of the names while a burst of insertions fills its cells. The first `ended` names are at rest, and those up to `filled`
-- have filled their cells. Those up to `granted` wait with the items that are kept; all others are at rest.
pub record Filling {T : Type 0} (names : List ℕ) (k ended filled granted : ℕ) (kept : List T) (v : QueueView T) : Type 0 where
  pub all_are : v.names ≡ names
  pub done : (i n : ℕ) → item_at names i ≡ Some n → i < ended → SaysOf v n Idle
  pub full : (i n : ℕ) → item_at names i ≡ Some n → ended ≤ i → i < filled → SaysOf v n (EndInsert (k + i))
  pub waits : (i n : ℕ) (x : T) → item_at names i ≡ Some n → filled ≤ i → i < granted → item_at kept (i - filled) ≡ Some x → SaysOf v n (TurnIn (k + i) x)
  pub rests : (i n : ℕ) → item_at names i ≡ Some n → granted ≤ i → SaysOf v n Idle
  pub some : length kept ≡ granted - filled
  pub order : (ended ≤ filled) × (filled ≤ granted) × (granted ≤ length names)

-- the same while a burst of deletions empties its cells
pub record Emptying {T : Type 0} (names : List ℕ) (k ended taken granted : ℕ) (v : QueueView T) : Type 0 where
  pub all_are : v.names ≡ names
  pub done : (i n : ℕ) → item_at names i ≡ Some n → i < ended → SaysOf v n Idle
  pub free : (i n : ℕ) → item_at names i ≡ Some n → ended ≤ i → i < taken → SaysOf v n (EndDelete (k + i))
  pub waits : (i n : ℕ) → item_at names i ≡ Some n → taken ≤ i → i < granted → SaysOf v n (TurnOut (k + i))
  pub rests : (i n : ℕ) → item_at names i ≡ Some n → granted ≤ i → SaysOf v n Idle
  pub order : (ended ≤ taken) × (taken ≤ granted) × (granted ≤ length names)

-- the marks that a name leaves at its cell
abbrev pub fills_at : {T : Type 0} → ℕ → ℕ → List (Kind T)
fills_at k i = made.Fill (k + i) ∷ []

abbrev pub takes_at : {T : Type 0} → ℕ → ℕ → List (Kind T)
takes_at k i = made.Take (k + i) ∷ []

-- the cells of the names from lo on were filled, until one's turn had not come
pub record FillsOn {T : Type 0} (size seats : ℕ) (names : List ℕ) (k lo filled granted : ℕ) (was kept : List T) (m after : QueueHolder T) : Type 0 where
  pub marks : MadeFrom size seats names lo filled (fills_at k) m after
  pub stands : Filling names k lo filled granted kept after.0
  pub slots : after.1 ≡ []
  pub kept_are : kept ≡ drop (filled - lo) was

-- the turn of ticket t had not come: the round before was not taken from its cell
abbrev pub IsEarly : {T : Type 0} → ℕ → ℕ → QueueHolder T → Type 0
IsEarly size t after = (earlier : ℕ) × (t ≡ earlier + size) × (Has (made.Take earlier) (reverse after.0.seen) → ⊥)

-- at a look after `before` and no later than `then`, the round before was not taken from this ticket's cell
pub record FoundFull {T : Type 0} (size ticket : ℕ) (before then : List (Mark T)) : Type 0 where
  pub earlier : ℕ
  pub round : ticket ≡ earlier + size
  pub look : List (Mark T)
  pub after_before : Begins before look
  pub by_then : Begins look then
  pub untaken : Has (made.Take earlier) look → ⊥

-- at such a look this ticket's cell was not filled
pub record FoundEmpty {T : Type 0} (ticket : ℕ) (before then : List (Mark T)) : Type 0 where
  pub look : List (Mark T)
  pub after_before : Begins before look
  pub by_then : Begins look then
  pub unfilled : Has (made.Fill ticket) look → ⊥

-- the last mark that was seen is the last of these, made by this name
abbrev pub EndsWith : {T : Type 0} → ℕ → List (Kind T) → QueueHolder T → Type 0
EndsWith n kinds after = last_of (reverse after.0.seen) ≡ last_of (made_by n kinds)

-- the last of the names from lo up to hi made the last mark that was seen, of this kind
abbrev pub LastEnds : {T : Type 0} → Kind T → List ℕ → ℕ → ℕ → QueueHolder T → Type 0
LastEnds κ names lo hi after = (i n : ℕ) → item_at names i ≡ Some n → lo ≤ i → i + 1 ≡ hi → EndsWith n (κ ∷ []) after

-- the marks that a name leaves from its cell on
abbrev pub filled_at : {T : Type 0} → ℕ → ℕ → List (Kind T)
filled_at k i = made.Fill (k + i) ∷ made.EndIn ∷ []

abbrev pub taken_at : {T : Type 0} → ℕ → ℕ → List (Kind T)
taken_at k i = made.Take (k + i) ∷ made.EndOut ∷ []

-- the names from lo on filled their cells and ended their insertions, until one's turn had not come
pub record FilledOn {T : Type 0} (size seats : ℕ) (names : List ℕ) (k lo filled granted : ℕ) (was kept : List T) (m after : QueueHolder T) : Type 0 where
  pub marks : MadeFrom size seats names lo filled (filled_at k) m after
  pub stands : filled < granted → Filling names k filled filled granted kept after.0
  pub rests : granted ≤ filled → after.0.phase ≡ Some (Alike Idle)
  pub slots : after.1 ≡ []
  pub kept_are : kept ≡ drop (filled - lo) was

-- the cells of the names from lo on were emptied into `got`, until one's turn had not come
pub record EmptiesOn {T : Type 0} (size seats : ℕ) (names : List ℕ) (k lo taken granted : ℕ) (was got : List T) (m after : QueueHolder T) : Type 0 where
  pub marks : MadeFrom size seats names lo taken (takes_at k) m after
  pub stands : Emptying names k lo taken granted after.0
  pub slots : after.1 ≡ []
  pub many : length got ≡ length was + (taken - lo)
  pub same : (i : ℕ) → i < length was → item_at got i ≡ item_at was i
  -- the new items are those that were put under these tickets
  pub put : (i : ℕ) (x : T) → lo ≤ i → i < taken → item_at got (length was + (i - lo)) ≡ Some x → item_at (items_put (reverse after.0.seen)) (k + i) ≡ Some x

-- the names from lo on emptied their cells and ended their deletions, until one's turn had not come
pub record EmptiedOn {T : Type 0} (size seats : ℕ) (names : List ℕ) (k lo taken granted : ℕ) (was got : List T) (m after : QueueHolder T) : Type 0 where
  pub marks : MadeFrom size seats names lo taken (taken_at k) m after
  pub stands : taken < granted → Emptying names k taken taken granted after.0
  pub rests : granted ≤ taken → after.0.phase ≡ Some (Alike Idle)
  pub slots : after.1 ≡ []
  pub many : length got ≡ length was + (taken - lo)
  pub same : (i : ℕ) → i < length was → item_at got i ≡ item_at was i
  pub put : (i : ℕ) (x : T) → lo ≤ i → i < taken → item_at got (length was + (i - lo)) ≡ Some x → item_at (items_put (reverse after.0.seen)) (k + i) ≡ Some x

-- ---- claims, name by name

-- between two states of a token this name left marks of these kinds
abbrev pub MadeBy : {T : Type 0} → ℕ → List (Kind T) → QueueHolder T → QueueHolder T → Type 0
MadeBy n kinds m after = marks_of seat_of n (reverse after.0.seen) ≡ marks_of seat_of n (reverse m.0.seen) ++ made_by n kinds

-- the first j of the names with an item claimed room and drew the tickets from k on, in the order of the items. The others were
-- over. `ticket` states what was before them. The names without an item left no mark.
pub record ClaimsOn {T : Type 0} (size seats : ℕ) (names : List ℕ) (xs : List T) (k j : ℕ) (m after : QueueHolder T) : Type 0 where
  pub some : 0 < j
  pub most : j ≤ length xs
  pub stands : Filling names k 0 0 j (take j xs) after.0
  pub left : after.0.left ≡ m.0.left - j
  pub slots : after.1 ≡ m.1
  pub begins : Begins (reverse m.0.seen) (reverse after.0.seen)
  pub lawful : IsLawful size seats after.0
  pub granted : (i n : ℕ) (x : T) → item_at names i ≡ Some n → i < j → item_at xs i ≡ Some x → MadeBy n (made.ClaimIn ∷ made.Put x ∷ []) m after
  pub over : (i n : ℕ) → item_at names i ≡ Some n → j ≤ i → i < length xs → MadeBy n (made.OverIn ∷ made.BackIn ∷ []) m after
  pub others : (i n : ℕ) → item_at names i ≡ Some n → length xs ≤ i → MadeBy n [] m after
  pub ticket : (i n : ℕ) (x : T) → item_at names i ≡ Some n → i < j → item_at xs i ≡ Some x → count puts (before_part n 1 m after) ≡ k + i
  pub put : (i : ℕ) (x : T) → i < j → item_at xs i ≡ Some x → item_at (items_put (reverse after.0.seen)) (k + i) ≡ Some x
  pub few : k + j ≤ 2 ^ 50
  pub drew : (i n : ℕ) (x : T) → item_at names i ≡ Some n → i < j → item_at xs i ≡ Some x → Drew (reverse after.0.seen) n (made.Put x) puts (k + i)
  pub last : (i n : ℕ) (x : T) → item_at names i ≡ Some n → i + 1 ≡ j → item_at xs i ≡ Some x → EndsWith n (made.Put x ∷ []) after

-- the first j of d names claimed an item each and drew the tickets from k on, with the items that were put under them.
-- The others of the d were over. The names from d on left no mark.
pub record ClaimsOutOn {T : Type 0} (size seats : ℕ) (names : List ℕ) (d k j : ℕ) (m after : QueueHolder T) : Type 0 where
  pub some : 0 < j
  pub most : j ≤ d
  pub stands : Emptying names k 0 0 j after.0
  pub left : after.0.left ≡ m.0.left - j
  pub slots : after.1 ≡ m.1
  pub begins : Begins (reverse m.0.seen) (reverse after.0.seen)
  pub lawful : IsLawful size seats after.0
  pub granted : (i n : ℕ) → item_at names i ≡ Some n → i < j → (x : T) × MadeBy n (made.ClaimOut ∷ made.Got x ∷ []) m after × (item_at (items_put (reverse after.0.seen)) (k + i) ≡ Some x) × (count gots (before_part n 1 m after) ≡ k + i)
  pub over : (i n : ℕ) → item_at names i ≡ Some n → j ≤ i → i < d → MadeBy n (made.OverOut ∷ made.BackOut ∷ []) m after
  pub others : (i n : ℕ) → item_at names i ≡ Some n → d ≤ i → MadeBy n [] m after
  pub few : k + j ≤ 2 ^ 50
  pub drew : (i n : ℕ) → item_at names i ≡ Some n → i < j → (x : T) × Drew (reverse after.0.seen) n (made.Got x) gots (k + i)
  pub last : (i n : ℕ) (x : T) → item_at names i ≡ Some n → i + 1 ≡ j → item_at (items_put (reverse after.0.seen)) (k + i) ≡ Some x → EndsWith n (made.Got x ∷ []) after

-- ---- refusals, name by name

-- the first d names left marks of these kinds, the others none, and all are at rest as before
pub record AllMade {T : Type 0} (size seats : ℕ) (names : List ℕ) (d : ℕ) (kinds : List (Kind T)) (m after : QueueHolder T) : Type 0 where
  pub names_are : after.0.names ≡ m.0.names
  pub phase : after.0.phase ≡ Some (Alike Idle)
  pub left : after.0.left ≡ m.0.left
  pub slots : after.1 ≡ m.1
  pub begins : Begins (reverse m.0.seen) (reverse after.0.seen)
  pub lawful : IsLawful size seats after.0
  pub each : (i n : ℕ) → item_at names i ≡ Some n → i < d → MadeBy n kinds m after
  pub others : (i n : ℕ) → item_at names i ≡ Some n → d ≤ i → MadeBy n [] m after
  pub last : (i n : ℕ) → item_at names i ≡ Some n → i + 1 ≡ d → EndsWith n kinds after

-- the first d names were all refused: by the test, or by the add; and u is the count before the first name's first mark
abbrev pub RefusesOn : {T : Type 0} → ℕ → ℕ → List ℕ → ℕ → NoRoom → QueueHolder T → QueueHolder T → Type 0
RefusesOn size seats names d (Full u) m after = (AllMade size seats names d (made.NoRoom ∷ []) m after ⊎ AllMade size seats names d (made.OverIn ∷ made.BackIn ∷ []) m after)
    × ((n : ℕ) → item_at names 0 ≡ Some n → u ≡ upper_count (before_part n 0 m after))
RefusesOn size seats names d Shut m after = AllMade size seats names d (made.Closed ∷ []) m after ⊎ AllMade size seats names d (made.LateIn ∷ made.BackIn ∷ []) m after

abbrev pub RefusesOutOn : {T : Type 0} → ℕ → ℕ → List ℕ → ℕ → ℤ → QueueHolder T → QueueHolder T → Type 0
RefusesOutOn size seats names d l m after = (AllMade size seats names d (made.NoItem ∷ []) m after ⊎ AllMade size seats names d (made.OverOut ∷ made.BackOut ∷ []) m after)
    × ((n : ℕ) → item_at names 0 ≡ Some n → l ≡ lower_count (before_part n 0 m after))
