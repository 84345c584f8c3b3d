-- How a table of words and slots shows a queue if a token may bear many names, each at a phase of its own; and what each atomic step
-- of a burst leaves.
use Rattle.std.specs.Prelude.{◌≡◌, Bool, true, false, ◌==◌, cond, zero, suc, ℤ, ◌⊎◌, ℕ, ◌+◌, ◌-◌, ◌*◌, ◌/◌, ◌%◌, ◌≢◌, ◌<◌, ◌≤◌, ◌^◌, None, Some, pos, ◌+ℤ◌, List, [], ◌∷◌, ◌++◌, length, take, drop, min, reverse}
use Rattle.atomic_table.specs.Table.{rest}
use Rattle.fak_model.specs.declared.queue.Kind.TheVariants as made
use Rattle.fak_model.specs.declared.queue.Mark.{Mark}
use Rattle.fak_model.specs.Queue.{count, puts, gots, items_put, item_at, upper_count, lower_count, queue_rules}
use Rattle.fak_model.specs.Histories.{AreNamed, IsHistory}
use Rattle.fak_model.specs.Seats.{In, Begins, marks_of}
use Rattle.fak_model.specs.Words.{bias}
use Rattle.fak_model.specs.Shown.{Leaves}
use Rattle.fak_core.specs.declared.queue.phase.Phase.{Phase}
use Rattle.fak_core.specs.declared.queue.phase.Phase.TheVariants.{Idle, AddUp, BackUp, TicketIn, TurnIn, StoreItem, EndInsert, SubLow, BackLow, TicketOut, TurnOut, LoadItem, EndDelete}
use Rattle.fak_core.specs.QueueBlocks.{Posts, names_of, all_at, marks_back, turns_from, turns_out_from, ArePut}
use Rattle.fak_queue.specs.declared.phases.Phases.{Phases}
use Rattle.fak_queue.specs.declared.phases.Phases.TheVariants.{Alike, Each}
use Rattle.fak_queue.specs.Shown.{QueueView, QueueHolder, queue_object, IsPost}
use Rattle.fak_queue.specs.Steps.{WaitsIn, WaitsOut, mark}
use Rattle.fak_queue.specs.declared.found.NoRoom.{NoRoom}
use Rattle.fak_queue.specs.declared.found.NoRoom.TheVariants.{Full, Shut}
use Rattle.fak_queue.specs.Words.{shut_bit}

-- each of these names is among the others
abbrev pub AllIn : List ℕ → List ℕ → Type 0
AllIn [] names = Unit {0}
AllIn (n ∷ ns) names = In n names × AllIn ns names

-- no name is in both
abbrev pub AreDisjoint : List ℕ → List ℕ → Type 0
AreDisjoint a b = (n : ℕ) → In n a → In n b → ⊥

-- the view states that these names, and maybe others, are at these phases
abbrev pub Says : {T : Type 0} → QueueView T → Posts T → Type 0
Says {T} v ps = (all : Posts T) × (v.phase ≡ Some (Each all)) × ((n : ℕ) (p : Phase T) → IsPost n p ps → IsPost n p all)

-- each of these is at rest
abbrev pub PostsAreIdle : {T : Type 0} → Posts T → Type 0
PostsAreIdle [] = Unit {0}
PostsAreIdle (s ∷ ps) = (s.1 ≡ Idle) × PostsAreIdle ps

-- what a view may state after a step that leaves these posts. It states the posts; or that all names are at rest, if all posts are
-- at rest and no name is missing.
abbrev pub SaysAfter : {T : Type 0} → List ℕ → Posts T → Phases T → Type 0
SaysAfter names posts then = (then ≡ Each posts) ⊎ ((then ≡ Alike Idle) × PostsAreIdle posts × AllIn names (names_of posts))

-- the names of `items` drew tickets that follow one another from `found` on, which is the number of earlier Puts; the others keep
-- their phases
pub record DrewBurst {T : Type 0} (size seats : ℕ) (items : List (ℕ × T)) (others : Posts T) (m : QueueHolder T) (found : ℕ) (after : QueueHolder T) : Type 0 where
  pub leaves : Leaves (queue_object size seats) m (marks_back (λ x. made.Put x) items) (Each (turns_from found items ++ others)) (m.0.left - length items) m.1 (λ past. count puts (reverse past) ≡ found) after
  pub few : found + length items ≤ 2 ^ 50

-- how many of d adds find room, if the first finds this word of the upper count
abbrev pub granted_of : ℕ → ℕ → ℕ → ℕ
granted_of size found d = min d (bias + size - found)

-- the past before the adds had the count that was found
abbrev pub TellsUpper : {T : Type 0} → ℕ → List (Mark T) → Type 0
TellsUpper found past = pos found ≡ pos bias +ℤ upper_count (reverse past)

module _ {T : Type 0} (size seats : ℕ) (items : List (ℕ × T)) (others : Posts T) where
  -- of the names of `items` the first j were granted, and the others are over
  abbrev pub AddedSome : ℕ → QueueHolder T → ℕ → QueueHolder T → Type 0
  AddedSome j m found after = Leaves (queue_object size seats) m (marks_back (λ x. made.OverIn) (drop j items) ++ marks_back (λ x. made.ClaimIn) (take j items))
      (Each ((all_at (λ x. TicketIn x) (take j items) ++ all_at (λ x. BackUp x) (drop j items)) ++ others)) m.0.left m.1 (TellsUpper found) after

  -- the queue was shut: all are late
  abbrev pub AddedLate : QueueHolder T → QueueHolder T → Type 0
  AddedLate m after = Leaves (queue_object size seats) m (marks_back (λ x. made.LateIn) items) (Each (all_at (λ x. BackUp x) items ++ others)) m.0.left m.1 (λ past. Unit {0}) after

  pub record AddedBurst (m : QueueHolder T) (found : ℕ) (after : QueueHolder T) : Type 0 where
    pub some : found < shut_bit → AddedSome (granted_of size found (length items)) m found after
    pub late : shut_bit ≤ found → AddedLate m after

  -- one load tested for the names of `items`
  pub record TestedBurst (m : QueueHolder T) (found : ℕ) (after : QueueHolder T) : Type 0 where
    pub room : found < bias + size → Leaves (queue_object size seats) m [] (Each (all_at (λ x. AddUp x) items ++ others)) m.0.left m.1 (TellsUpper found) after
    pub full : bias + size ≤ found → found < shut_bit → Leaves (queue_object size seats) m (marks_back (λ x. made.NoRoom) items) (Alike Idle) m.0.left m.1 (TellsUpper found) after
    pub late : shut_bit ≤ found → Leaves (queue_object size seats) m (marks_back (λ x. made.Closed) items) (Alike Idle) m.0.left m.1 (λ past. Unit {0}) after

  -- the names of `items` withdrew
  abbrev pub BackBurst : Phases T → QueueHolder T → QueueHolder T → Type 0
  BackBurst then m after = Leaves (queue_object size seats) m (marks_back (λ x. made.BackIn) items) then m.0.left m.1 (λ past. Unit {0}) after

-- the same posts, except that this name is at phase p
abbrev pub post_to : {T : Type 0} → ℕ → Phase T → Posts T → Posts T
post_to n p [] = []
post_to n p (s ∷ posts) = (s.0, cond (s.0 == n) p s.1) ∷ post_to n p posts

-- the same posts, except that these names are at phase p
abbrev pub posts_to : {T : Type 0} → List ℕ → Phase T → Posts T → Posts T
posts_to [] p all = all
posts_to (n ∷ names) p all = posts_to names p (post_to n p all)

-- these names with the tickets from k on
abbrev pub tickets_of : List ℕ → ℕ → List (ℕ × ℕ)
tickets_of [] k = []
tickets_of (n ∷ names) k = (n, k) ∷ tickets_of names (k + 1)

-- what the view states once these names are at rest; with `true`, all other names are at rest too
abbrev pub once_rest : {T : Type 0} → Bool → List ℕ → Posts T → Phases T
once_rest true names all = Alike Idle
once_rest false names all = Each (posts_to names Idle all)

-- these names, each with its ticket, ended their insertions; the others keep their phases
abbrev pub EndedBurst : {T : Type 0} → ℕ → ℕ → List (ℕ × ℕ) → Bool → QueueHolder T → QueueHolder T → Type 0
EndedBurst {T} size seats items rests m after = (all : Posts T) → m.0.phase ≡ Some (Each all)
    → Leaves (queue_object size seats) m (marks_back (λ k. made.EndIn) items) (once_rest rests (names_of items) all) m.0.left m.1 (λ past. Unit {0}) after

-- these names, each with its ticket, ended their deletions; the others keep their phases
abbrev pub EndedOutBurst : {T : Type 0} → ℕ → ℕ → List (ℕ × ℕ) → Bool → QueueHolder T → QueueHolder T → Type 0
EndedOutBurst {T} size seats items rests m after = (all : Posts T) → m.0.phase ≡ Some (Each all)
    → Leaves (queue_object size seats) m (marks_back (λ k. made.EndOut) items) (once_rest rests (names_of items) all) m.0.left m.1 (λ past. Unit {0}) after

-- one name's load of the turn of ticket k; the other names keep their phases
module _ {T : Type 0} (size seats n k : ℕ) where
  pub record TurnedBurst (x : T) (all : Posts T) (m : QueueHolder T) (found : ℕ) (after : QueueHolder T) : Type 0 where
    pub hit : found ≡ 2 * (k / size) → Leaves (queue_object size seats) m [] (Each (post_to n (StoreItem k x) all)) m.0.left ((k % size, None) ∷ m.1) (λ past. Unit {0}) after
    pub miss : found ≢ 2 * (k / size) → Leaves (queue_object size seats) m [] (Each (post_to n (TurnIn k x) all)) m.0.left m.1 (WaitsIn size seats n k x) after

  abbrev pub FilledBurst : Posts T → QueueHolder T → QueueHolder T → Type 0
  FilledBurst all m after = Leaves (queue_object size seats) m (mark n (made.Fill k) ∷ []) (Each (post_to n (EndInsert k) all)) m.0.left (rest m.1) (λ past. Unit {0}) after

-- the same for each ticket and item that the name may have
abbrev pub TurnsBurst : {T : Type 0} → ℕ → ℕ → ℕ → QueueHolder T → ℕ → QueueHolder T → Type 0
TurnsBurst {T} size seats n m found after = (k : ℕ) (x : T) (all : Posts T) → m.0.phase ≡ Some (Each all) → IsPost n (TurnIn k x) all → TurnedBurst size seats n k x all m found after

abbrev pub FillsCellInBurst : {T : Type 0} → ℕ → ℕ → ℕ → QueueHolder T → QueueHolder T → Type 0
FillsCellInBurst {T} size seats n m after = (k : ℕ) (x : T) (all : Posts T) → m.0.phase ≡ Some (Each all) → IsPost n (StoreItem k x) all → FilledBurst size seats n k all m after

-- ---- parts of a burst

-- names with an item each
abbrev pub pair_up : {T : Type 0} → List ℕ → List T → List (ℕ × T)
pair_up [] xs = []
pair_up (n ∷ ns) [] = []
pair_up (n ∷ ns) (x ∷ xs) = (n, x) ∷ pair_up ns xs

-- names at rest
abbrev pub idle_posts : {T : Type 0} → List ℕ → Posts T
idle_posts [] = []
idle_posts (n ∷ ns) = (n, Idle) ∷ idle_posts ns

-- the names of a token left these marks, newest first, and it has seen more; the records below state the rest
pub record LeavesMarks {T : Type 0} (size seats : ℕ) (new : List (Mark T)) (m after : QueueHolder T) : Type 0 where
  pub names : after.0.names ≡ m.0.names
  pub slots : after.1 ≡ m.1
  pub begins : Begins (reverse m.0.seen) (reverse after.0.seen)
  pub mine : (n : ℕ) → In n m.0.names → marks_of (λ (x : Mark T). x.seat) n (reverse after.0.seen) ≡ marks_of (λ (x : Mark T). x.seat) n (reverse m.0.seen) ++ marks_of (λ (x : Mark T). x.seat) n (reverse new)
  pub lawful : IsHistory (queue_rules size) (reverse after.0.seen)
  pub named : AreNamed (queue_rules size) seats (reverse after.0.seen)

-- these marks, newest first, are in what was seen, with this past before them
abbrev pub StandAfter : {T : Type 0} → List (Mark T) → List (Mark T) → QueueHolder T → Type 0
StandAfter past new after = Begins (reverse (new ++ past)) (reverse after.0.seen)

-- no name of m left a mark between what m had seen and this past
abbrev pub NoneOwn : {T : Type 0} → List (Mark T) → QueueHolder T → Type 0
NoneOwn {T} past m = (n : ℕ) → In n m.0.names → marks_of (λ (x : Mark T). x.seat) n (reverse past) ≡ marks_of (λ (x : Mark T). x.seat) n (reverse m.0.seen)

-- the newest of these marks, which come newest first, is the newest that was seen
abbrev pub EndsIn : {T : Type 0} → List (Mark T) → QueueHolder T → Type 0
EndsIn [] after = Unit {0}
EndsIn {T} (x ∷ new) after = (past : List (Mark T)) × (after.0.seen ≡ x ∷ past)

-- all were refused with these marks, and are at rest again
pub record NoneBurst {T : Type 0} (size seats : ℕ) (new : List (Mark T)) (m after : QueueHolder T) : Type 0 where
  pub phase : after.0.phase ≡ Some (Alike Idle)
  pub left : after.0.left ≡ m.0.left
  pub makes : LeavesMarks size seats new m after
  pub ends : EndsIn new after

-- the first j of the names with an item are to draw, the others are at phases of this kind. The names without an item are at rest.
abbrev pub claims_at : {T : Type 0} → (T → Phase T) → List ℕ → List T → ℕ → Posts T
claims_at at ns xs j = all_at (λ x. TicketIn x) (take j (pair_up ns xs)) ++ (all_at at (drop j (pair_up ns xs)) ++ idle_posts (drop (length xs) ns))

module _ {T : Type 0} (size seats : ℕ) (ns : List ℕ) (xs : List T) where
  -- the first j of the names with an item were granted and are to draw, as many as found room; the others withdrew
  pub record RoomBurst (j : ℕ) (m after : QueueHolder T) : Type 0 where
    pub some : 0 < j
    pub most : j ≤ length xs
    pub phase : Says after.0 (claims_at (λ x. Idle) ns xs j)
    pub left : after.0.left ≡ m.0.left
    pub makes : LeavesMarks size seats (marks_back (λ x. made.BackIn) (drop j (pair_up ns xs)) ++ (marks_back (λ x. made.OverIn) (drop j (pair_up ns xs)) ++ marks_back (λ x. made.ClaimIn) (take j (pair_up ns xs)))) m after
    -- the count that the first add found, in the past before it
    pub found : ℕ
    pub granted : j ≡ granted_of size found (length xs)
    pub past : List (Mark T)
    pub upper : TellsUpper found past
    pub stands : StandAfter past (marks_back (λ x. made.OverIn) (drop j (pair_up ns xs)) ++ marks_back (λ x. made.ClaimIn) (take j (pair_up ns xs))) after

  abbrev pub RefusedBurst : NoRoom → QueueHolder T → QueueHolder T → Type 0
  RefusedBurst (Full u) m after = (past : List (Mark T)) × (u ≡ upper_count (reverse past)) × NoneOwn past m
      × ((NoneBurst size seats (marks_back (λ x. made.NoRoom) (pair_up ns xs)) m after × StandAfter past (marks_back (λ x. made.NoRoom) (pair_up ns xs)) after)
      ⊎ (NoneBurst size seats (marks_back (λ x. made.BackIn) (pair_up ns xs) ++ marks_back (λ x. made.OverIn) (pair_up ns xs)) m after × StandAfter past (marks_back (λ x. made.OverIn) (pair_up ns xs)) after))
  RefusedBurst Shut m after = NoneBurst size seats (marks_back (λ x. made.Closed) (pair_up ns xs)) m after ⊎ NoneBurst size seats (marks_back (λ x. made.BackIn) (pair_up ns xs) ++ marks_back (λ x. made.LateIn) (pair_up ns xs)) m after

  -- the first j were granted and drew the tickets from k on; their Puts follow k others, one right after the other; the others withdrew
  pub record ClaimedBurst (k j : ℕ) (m after : QueueHolder T) : Type 0 where
    pub some : 0 < j
    pub most : j ≤ length xs
    pub phase : after.0.phase ≡ Some (Each (turns_from k (take j (pair_up ns xs)) ++ (all_at (λ x. Idle) (drop j (pair_up ns xs)) ++ idle_posts (drop (length xs) ns))))
    pub left : after.0.left ≡ m.0.left - j
    pub makes : LeavesMarks size seats (marks_back (λ x. made.Put x) (take j (pair_up ns xs)) ++ (marks_back (λ x. made.BackIn) (drop j (pair_up ns xs))
        ++ (marks_back (λ x. made.OverIn) (drop j (pair_up ns xs)) ++ marks_back (λ x. made.ClaimIn) (take j (pair_up ns xs))))) m after
    pub past : List (Mark T)
    pub puts_last : after.0.seen ≡ marks_back (λ x. made.Put x) (take j (pair_up ns xs)) ++ past
    pub ticket : count puts (reverse past) ≡ k
    pub few : k + j ≤ 2 ^ 50
    -- the count that the first add found, in the past before it
    pub found : ℕ
    pub granted : j ≡ granted_of size found (length xs)
    pub earlier : List (Mark T)
    pub upper : TellsUpper found earlier
    pub stands : StandAfter earlier (marks_back (λ x. made.OverIn) (drop j (pair_up ns xs)) ++ marks_back (λ x. made.ClaimIn) (take j (pair_up ns xs))) after

-- ---- deletions

-- how many of d subtractions find an item, if the first finds this word of the lower count
abbrev pub granted_low : ℕ → ℕ → ℕ
granted_low found d = min d (found - bias)

abbrev pub TellsLower : {T : Type 0} → ℕ → List (Mark T) → Type 0
TellsLower found past = pos found ≡ pos bias +ℤ lower_count (reverse past)

module _ {T : Type 0} (size seats : ℕ) (items : List (ℕ × Unit {0})) (others : Posts T) where
  abbrev pub SubbedSome : ℕ → QueueHolder T → ℕ → QueueHolder T → Type 0
  SubbedSome j m found after = Leaves (queue_object size seats) m (marks_back (λ x. made.OverOut) (drop j items) ++ marks_back (λ x. made.ClaimOut) (take j items))
      (Each ((all_at (λ x. TicketOut) (take j items) ++ all_at (λ x. BackLow) (drop j items)) ++ others)) m.0.left m.1 (TellsLower found) after

  abbrev pub SubbedBurst : QueueHolder T → ℕ → QueueHolder T → Type 0
  SubbedBurst m found after = SubbedSome (granted_low found (length items)) m found after

  abbrev pub BackLowBurst : Phases T → QueueHolder T → QueueHolder T → Type 0
  BackLowBurst then m after = Leaves (queue_object size seats) m (marks_back (λ x. made.BackOut) items) then m.0.left m.1 (λ past. Unit {0}) after

  -- these names drew tickets that follow one another from `found` on, each with the item that was put under its ticket
  pub record DrewOutBurst (m : QueueHolder T) (found : ℕ) (after : QueueHolder T) : Type 0 where
    pub drawn : List (ℕ × T)
    pub names : names_of drawn ≡ names_of items
    pub leaves : Leaves (queue_object size seats) m (marks_back (λ x. made.Got x) drawn) (Each (turns_out_from found items ++ others)) (m.0.left - length items) m.1 (λ past. (count gots (reverse past) ≡ found) × ArePut past found drawn) after
    pub few : found + length items ≤ 2 ^ 50

  pub record TestedLowBurst (m : QueueHolder T) (found : ℕ) (after : QueueHolder T) : Type 0 where
    pub stock : bias < found → Leaves (queue_object size seats) m [] (Each (all_at (λ x. SubLow) items ++ others)) m.0.left m.1 (TellsLower found) after
    pub empty : found ≤ bias → Leaves (queue_object size seats) m (marks_back (λ x. made.NoItem) items) (Alike Idle) m.0.left m.1 (TellsLower found) after

-- one name's load of the turn of ticket k; the other names keep their phases
module _ {T : Type 0} (size seats n k : ℕ) where
  pub record TurnedOutBurst (all : Posts T) (m : QueueHolder T) (found : ℕ) (after : QueueHolder T) : Type 0 where
    -- with the item that was put under the ticket
    pub hit : found ≡ 2 * (k / size) + 1 → (x : T) × Leaves (queue_object size seats) m [] (Each (post_to n (LoadItem k) all)) m.0.left ((k % size, Some x) ∷ m.1) (λ past. item_at (items_put (reverse past)) k ≡ Some x) after
    pub miss : found ≢ 2 * (k / size) + 1 → Leaves (queue_object size seats) m [] (Each (post_to n (TurnOut k) all)) m.0.left m.1 (WaitsOut size seats n k) after

  abbrev pub FreedBurst : Posts T → QueueHolder T → QueueHolder T → Type 0
  FreedBurst all m after = Leaves (queue_object size seats) m (mark n (made.Take k) ∷ []) (Each (post_to n (EndDelete k) all)) m.0.left (rest m.1) (λ past. Unit {0}) after

abbrev pub TurnsOutBurst : {T : Type 0} → ℕ → ℕ → ℕ → QueueHolder T → ℕ → QueueHolder T → Type 0
TurnsOutBurst {T} size seats n m found after = (k : ℕ) (all : Posts T) → m.0.phase ≡ Some (Each all) → IsPost n (TurnOut k) all → TurnedOutBurst size seats n k all m found after

abbrev pub FreesBurst : {T : Type 0} → ℕ → ℕ → ℕ → QueueHolder T → QueueHolder T → Type 0
FreesBurst {T} size seats n m after = (k : ℕ) (all : Posts T) → m.0.phase ≡ Some (Each all) → IsPost n (LoadItem k) all → FreedBurst size seats n k all m after

-- ---- parts of a burst of deletions, with something for each name that takes part

-- something for each of n names
abbrev pub units : ℕ → List (Unit {0})
units zero = []
units (suc n) = tt ∷ units n

-- the first j of the names that take part are to draw, the others are at this phase. Those that take no part are at rest.
abbrev pub claims_out_at : {T : Type 0} → Phase T → List ℕ → List (Unit {0}) → ℕ → Posts T
claims_out_at p ns us j = all_at (λ x. TicketOut) (take j (pair_up ns us)) ++ (all_at (λ x. p) (drop j (pair_up ns us)) ++ idle_posts (drop (length us) ns))

module _ {T : Type 0} (size seats : ℕ) (ns : List ℕ) (us : List (Unit {0})) where
  -- the first j were granted and are to draw, as many as found an item; the others withdrew
  pub record StockBurst (j : ℕ) (m after : QueueHolder T) : Type 0 where
    pub some : 0 < j
    pub most : j ≤ length us
    pub phase : Says after.0 (claims_out_at Idle ns us j)
    pub left : after.0.left ≡ m.0.left
    pub makes : LeavesMarks size seats (marks_back (λ x. made.BackOut) (drop j (pair_up ns us)) ++ (marks_back (λ x. made.OverOut) (drop j (pair_up ns us)) ++ marks_back (λ x. made.ClaimOut) (take j (pair_up ns us)))) m after
    -- the count that the first subtraction found, in the past before it
    pub found : ℕ
    pub granted : j ≡ granted_low found (length us)
    pub past : List (Mark T)
    pub lower : TellsLower found past
    pub stands : StandAfter past (marks_back (λ x. made.OverOut) (drop j (pair_up ns us)) ++ marks_back (λ x. made.ClaimOut) (take j (pair_up ns us))) after

  -- all were refused, by the test or by the subtraction, and are at rest again
  abbrev pub RefusedOutBurst : ℤ → QueueHolder T → QueueHolder T → Type 0
  RefusedOutBurst l m after = (past : List (Mark T)) × (l ≡ lower_count (reverse past)) × NoneOwn past m
      × ((NoneBurst size seats (marks_back (λ x. made.NoItem) (pair_up ns us)) m after × StandAfter past (marks_back (λ x. made.NoItem) (pair_up ns us)) after)
      ⊎ (NoneBurst size seats (marks_back (λ x. made.BackOut) (pair_up ns us) ++ marks_back (λ x. made.OverOut) (pair_up ns us)) m after × StandAfter past (marks_back (λ x. made.OverOut) (pair_up ns us)) after))

  -- the first j were granted and drew the tickets from k on, each with the item that was put under its ticket; the others withdrew
  pub record ClaimedOutBurst (k j : ℕ) (m after : QueueHolder T) : Type 0 where
    pub some : 0 < j
    pub most : j ≤ length us
    pub drawn : List (ℕ × T)
    pub names : names_of drawn ≡ names_of (take j (pair_up ns us))
    pub phase : after.0.phase ≡ Some (Each (turns_out_from k (take j (pair_up ns us)) ++ (all_at (λ x. Idle) (drop j (pair_up ns us)) ++ idle_posts (drop (length us) ns))))
    pub left : after.0.left ≡ m.0.left - j
    pub makes : LeavesMarks size seats (marks_back (λ x. made.Got x) drawn ++ (marks_back (λ x. made.BackOut) (drop j (pair_up ns us))
        ++ (marks_back (λ x. made.OverOut) (drop j (pair_up ns us)) ++ marks_back (λ x. made.ClaimOut) (take j (pair_up ns us))))) m after
    pub past : List (Mark T)
    pub gots_last : after.0.seen ≡ marks_back (λ x. made.Got x) drawn ++ past
    pub ticket : count gots (reverse past) ≡ k
    pub put : ArePut past k drawn
    pub few : k + j ≤ 2 ^ 50
    -- the count that the first subtraction found, in the past before it
    pub found : ℕ
    pub granted : j ≡ granted_low found (length us)
    pub earlier : List (Mark T)
    pub lower : TellsLower found earlier
    pub stands : StandAfter earlier (marks_back (λ x. made.OverOut) (drop j (pair_up ns us)) ++ marks_back (λ x. made.ClaimOut) (take j (pair_up ns us))) after
