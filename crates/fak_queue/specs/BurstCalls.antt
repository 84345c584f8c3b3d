-- What the calls of a bundle do to it, in the words of single calls of its seats. Names are counted from 0, in the order in which
-- they take tickets.
use Rattle.std.specs.Prelude.{◌≡◌, ◌⊎◌, ℕ, ◌+◌, ◌-◌, ◌<◌, ◌≤◌, ℤ, List, [], ◌∷◌, ◌++◌, length, min, Some}
use Rattle.std.specs.List.{sum_by}
use Rattle.fak_model.specs.declared.queue.Kind.{Kind}
use Rattle.fak_model.specs.declared.queue.Kind.TheVariants as made
use Rattle.fak_model.specs.declared.queue.Mark.{Mark}
use Rattle.fak_model.specs.Histories.{AreNamed}
use Rattle.fak_model.specs.Queue.{IsQueueHistory, queue_rules, count, puts, gots, upper_count, lower_count, items_put, item_at}
use Rattle.fak_model.specs.Seats.{Begins}
use Rattle.fak_model.specs.Calls.{last_of, mine_of}
use Rattle.fak_queue.specs.declared.bundle.BundleState.TheVariants.{Idle, Inserting, Deleting}
use Rattle.fak_queue.specs.declared.fault.BurstFault.{BurstFault}
use Rattle.fak_queue.specs.declared.fault.BurstFault.TheVariants.{Worn, Closed, Full}
use Rattle.fak_queue.specs.declared.fault.DeleteFault.{DeleteFault}
use Rattle.fak_queue.specs.declared.fault.DeleteFault.TheVariants as deletion
use Rattle.fak_queue.specs.Queues.{before_own, kinds_in, kinds_out, made_by, seat_of}
use Rattle.fak_queue.specs.BundleCalls.{BundleInfo, seat_in, drawn_by_all}
use Rattle.fak_queue.specs.Bundles.{FoundEmpty, FoundFull}
use Rattle.fak_queue.specs.Sums.{put_by, got_by}

-- ---- what a call leaves

-- the seat of this name made marks of these kinds, and no other
abbrev pub SeatMade : {T : Type 0} → ℕ → List (Kind T) → BundleInfo (Mark T) → BundleInfo (Mark T) → Type 0
SeatMade n kinds old new = mine_of seat_of (seat_in new n) ≡ mine_of seat_of (seat_in old n) ++ made_by n kinds

-- the last mark that the bundle has seen is the last of these, made by this seat
abbrev pub SeatEnds : {T : Type 0} → ℕ → List (Kind T) → BundleInfo (Mark T) → Type 0
SeatEnds n kinds new = last_of new.seen ≡ last_of (made_by n kinds)

-- the same bundle, which has seen more
pub record GoesOn {T : Type 0} (size : ℕ) (old new : BundleInfo (Mark T)) : Type 0 where
  pub same_bundle : new ≡ record old { state = new.state; seen = new.seen }
  pub begins : Begins old.seen new.seen
  pub lawful : IsQueueHistory size new.seen
  pub named : AreNamed (queue_rules size) new.object.seats new.seen

-- how many seats take part in a burst of at most this many: no more than the bundle has, and than have tickets left
abbrev pub asked_of : {T : Type 0} → ℕ → BundleInfo (Mark T) → ℕ
asked_of most old = min most (min (length old.names) (old.stint - drawn_by_all old))

-- ---- claims and whole bursts

-- this seat's insertion was granted: as many Puts come before its own as its ticket says, and its item is the one under this ticket
pub record GrantedIn {T : Type 0} (kinds_of : ℕ → T → List (Kind T)) (n ticket : ℕ) (x : T) (old new : BundleInfo (Mark T)) : Type 0 where
  pub makes : SeatMade n (kinds_of ticket x) old new
  pub ticket_is : count puts (before_own 1 (seat_in old n) (seat_in new n)) ≡ ticket
  pub put : item_at (items_put new.seen) ticket ≡ Some x

-- of the items xs the first j were granted, with the tickets from k on, each to one seat; each other seat that took part was over;
-- the call ends with the last mark of the last seat that was granted
pub record BurstIn {T : Type 0} (kinds_of : ℕ → T → List (Kind T)) (size : ℕ) (xs : List T) (k j : ℕ) (old new : BundleInfo (Mark T)) : Type 0 where
  pub some : 0 < j
  pub most : j ≤ asked_of (length xs) old
  pub goes_on : GoesOn size old new
  pub granted : (i n : ℕ) (x : T) → item_at old.names i ≡ Some n → i < j → item_at xs i ≡ Some x → GrantedIn kinds_of n (k + i) x old new
  pub over : (i n : ℕ) → item_at old.names i ≡ Some n → j ≤ i → i < asked_of (length xs) old → SeatMade n (made.OverIn ∷ made.BackIn ∷ []) old new
  pub others : (i n : ℕ) → item_at old.names i ≡ Some n → asked_of (length xs) old ≤ i → SeatMade n [] old new
  pub last : (i n : ℕ) (x : T) → item_at old.names i ≡ Some n → i + 1 ≡ j → item_at xs i ≡ Some x → SeatEnds n (kinds_of (k + i) x) new

-- a burst that was claimed, and a whole one
abbrev pub ClaimsBurst : {T : Type 0} → ℕ → List T → ℕ → ℕ → BundleInfo (Mark T) → BundleInfo (Mark T) → Type 0
ClaimsBurst {T} size xs k j old new = BurstIn (λ (ticket : ℕ) (x : T). made.ClaimIn ∷ made.Put x ∷ []) size xs k j old new

abbrev pub InsertsBurst : {T : Type 0} → ℕ → List T → ℕ → ℕ → BundleInfo (Mark T) → BundleInfo (Mark T) → Type 0
InsertsBurst size xs k j old new = BurstIn kinds_in size xs k j old new

-- this seat's deletion was granted: as many Gots come before its own as its ticket says, and its item is the one that was put
-- under this ticket
pub record GrantedOut {T : Type 0} (kinds_of : ℕ → T → List (Kind T)) (n ticket : ℕ) (x : T) (old new : BundleInfo (Mark T)) : Type 0 where
  pub makes : SeatMade n (kinds_of ticket x) old new
  pub ticket_is : count gots (before_own 1 (seat_in old n) (seat_in new n)) ≡ ticket
  pub put : item_at (items_put new.seen) ticket ≡ Some x

-- of at most this many deletions the first ones were granted, with the items ys and the tickets from k on, each to one seat; each
-- other seat that took part was over; the call ends with the last mark of the last seat that was granted
pub record BurstOut {T : Type 0} (kinds_of : ℕ → T → List (Kind T)) (size most : ℕ) (ys : List T) (k : ℕ) (old new : BundleInfo (Mark T)) : Type 0 where
  pub some : 0 < length ys
  pub few : length ys ≤ asked_of most old
  pub goes_on : GoesOn size old new
  pub granted : (i n : ℕ) (x : T) → item_at old.names i ≡ Some n → item_at ys i ≡ Some x → GrantedOut kinds_of n (k + i) x old new
  pub over : (i n : ℕ) → item_at old.names i ≡ Some n → length ys ≤ i → i < asked_of most old → SeatMade n (made.OverOut ∷ made.BackOut ∷ []) old new
  pub others : (i n : ℕ) → item_at old.names i ≡ Some n → asked_of most old ≤ i → SeatMade n [] old new
  pub last : (i n : ℕ) (x : T) → item_at old.names i ≡ Some n → i + 1 ≡ length ys → item_at ys i ≡ Some x → SeatEnds n (kinds_of (k + i) x) new

-- a burst of j deletions that was claimed, and a whole one, which hands out ys
abbrev pub ClaimsBurstOut : {T : Type 0} → ℕ → ℕ → ℕ → ℕ → BundleInfo (Mark T) → BundleInfo (Mark T) → Type 0
ClaimsBurstOut {T} size most k j old new = (ys : List T) × (length ys ≡ j) × BurstOut (λ (ticket : ℕ) (x : T). made.ClaimOut ∷ made.Got x ∷ []) size most ys k old new

abbrev pub DeletesBurst : {T : Type 0} → ℕ → ℕ → List T → ℕ → BundleInfo (Mark T) → BundleInfo (Mark T) → Type 0
DeletesBurst size most ys k old new = BurstOut kinds_out size most ys k old new

-- ---- the rest of a claimed burst

-- the insertions from lo on, up to hi, filled their cells and ended; their tickets count from k; if there are any, the call ends with
-- the last mark of the last one
pub record FillsBurst {T : Type 0} (size k lo hi : ℕ) (old new : BundleInfo (Mark T)) : Type 0 where
  pub goes_on : GoesOn size old new
  pub done : (i n : ℕ) → item_at old.names i ≡ Some n → lo ≤ i → i < hi → SeatMade n (made.Fill (k + i) ∷ made.EndIn ∷ []) old new
  pub others : (i n : ℕ) → item_at old.names i ≡ Some n → (i < lo) ⊎ (hi ≤ i) → SeatMade n [] old new
  pub last : (i n : ℕ) → item_at old.names i ≡ Some n → lo ≤ i → i + 1 ≡ hi → SeatEnds n (made.Fill (k + i) ∷ made.EndIn ∷ []) new

-- of the insertions from `ended` on, of `granted`, all but `left` filled their cells; the next one waits
pub record TriesToFill {T : Type 0} (size k ended granted left : ℕ) (old new : BundleInfo (Mark T)) : Type 0 where
  pub few : left ≤ granted - ended
  pub fills : FillsBurst size k ended (granted - left) old new
  pub all : left ≡ 0 → new.state ≡ Idle
  pub some : 0 < left → new.state ≡ Inserting k (granted - left) granted
  pub waits : 0 < left → FoundFull size (k + (granted - left)) old.seen new.seen

-- the deletions from lo on, up to hi, took the items ys, which were put under their tickets, and ended; if there are any, the call ends
-- with the last mark of the last one
pub record TakesBurst {T : Type 0} (size k lo hi : ℕ) (ys : List T) (old new : BundleInfo (Mark T)) : Type 0 where
  pub goes_on : GoesOn size old new
  pub done : (i n : ℕ) → item_at old.names i ≡ Some n → lo ≤ i → i < hi → SeatMade n (made.Take (k + i) ∷ made.EndOut ∷ []) old new
  pub others : (i n : ℕ) → item_at old.names i ≡ Some n → (i < lo) ⊎ (hi ≤ i) → SeatMade n [] old new
  pub last : (i n : ℕ) → item_at old.names i ≡ Some n → lo ≤ i → i + 1 ≡ hi → SeatEnds n (made.Take (k + i) ∷ made.EndOut ∷ []) new
  pub many : length ys ≡ hi - lo
  pub put : (i : ℕ) (x : T) → item_at ys i ≡ Some x → item_at (items_put new.seen) (k + (lo + i)) ≡ Some x

-- of the deletions from `ended` on, of `granted`, all but `left` took their items; the next one waits
pub record TriesToTake {T : Type 0} (size k ended granted left : ℕ) (ys : List T) (old new : BundleInfo (Mark T)) : Type 0 where
  pub few : left ≤ granted - ended
  pub takes : TakesBurst size k ended (granted - left) ys old new
  pub all : left ≡ 0 → new.state ≡ Idle
  pub some : 0 < left → new.state ≡ Deleting k (granted - left) granted
  pub waits : 0 < left → FoundEmpty (k + (granted - left)) old.seen new.seen

-- ---- refusals

-- a bundle whose seats have drawn all their tickets is as it was
pub record IsWornBundle {T : Type 0} (old new : BundleInfo (Mark T)) : Type 0 where
  pub spent : drawn_by_all old ≡ old.stint
  pub unchanged : new ≡ old

-- each seat that took part made marks of these kinds, and the others none; the call ends with the last mark of the last one
pub record RefusesEach {T : Type 0} (size asked : ℕ) (kinds : List (Kind T)) (old new : BundleInfo (Mark T)) : Type 0 where
  pub goes_on : GoesOn size old new
  pub each : (i n : ℕ) → item_at old.names i ≡ Some n → i < asked → SeatMade n kinds old new
  pub others : (i n : ℕ) → item_at old.names i ≡ Some n → asked ≤ i → SeatMade n [] old new
  pub last : (i n : ℕ) → item_at old.names i ≡ Some n → i + 1 ≡ asked → SeatEnds n kinds new

-- insertions that the upper count, as it was before the first seat's first mark, refused
pub record RefusesBurstFull {T : Type 0} (size asked : ℕ) (upper : ℤ) (old new : BundleInfo (Mark T)) : Type 0 where
  pub makes : RefusesEach size asked (made.NoRoom ∷ []) old new ⊎ RefusesEach size asked (made.OverIn ∷ made.BackIn ∷ []) old new
  pub upper_is : (n : ℕ) → item_at old.names 0 ≡ Some n → upper ≡ upper_count (before_own 0 (seat_in old n) (seat_in new n))

-- insertions that found the queue shut
abbrev pub RefusesBurstClosed : {T : Type 0} → ℕ → ℕ → BundleInfo (Mark T) → BundleInfo (Mark T) → Type 0
RefusesBurstClosed size asked old new = RefusesEach size asked (made.Closed ∷ []) old new ⊎ RefusesEach size asked (made.LateIn ∷ made.BackIn ∷ []) old new

-- a burst of at most this many insertions was refused; only a bundle that drew all its tickets is worn
abbrev pub RefusesBurst : {T : Type 0} → ℕ → ℕ → BundleInfo (Mark T) → BundleInfo (Mark T) → BurstFault → Type 0
RefusesBurst size most old new Worn = IsWornBundle old new
RefusesBurst size most old new Closed = (drawn_by_all old < old.stint) × RefusesBurstClosed size (asked_of most old) old new
RefusesBurst size most old new (Full upper) = (drawn_by_all old < old.stint) × RefusesBurstFull size (asked_of most old) upper old new

-- deletions that the lower count, as it was before the first seat's first mark, refused
pub record RefusesBurstEmpty {T : Type 0} (size asked : ℕ) (lower : ℤ) (old new : BundleInfo (Mark T)) : Type 0 where
  pub makes : RefusesEach size asked (made.NoItem ∷ []) old new ⊎ RefusesEach size asked (made.OverOut ∷ made.BackOut ∷ []) old new
  pub lower_is : (n : ℕ) → item_at old.names 0 ≡ Some n → lower ≡ lower_count (before_own 0 (seat_in old n) (seat_in new n))

-- a burst of at most this many deletions was refused
abbrev pub RefusesBurstOut : {T : Type 0} → ℕ → ℕ → BundleInfo (Mark T) → BundleInfo (Mark T) → DeleteFault → Type 0
RefusesBurstOut size most old new deletion.Worn = IsWornBundle old new
RefusesBurstOut size most old new (deletion.Empty lower) = (drawn_by_all old < old.stint) × RefusesBurstEmpty size (asked_of most old) lower old new

-- ---- sums

-- what the items weigh that a bundle's seats put in, and those that they got out
abbrev pub put_by_all : {T : Type 0} → (T → ℕ) → BundleInfo (Mark T) → ℕ
put_by_all w b = sum_by (λ (n : ℕ). put_by w (seat_in b n)) b.names

abbrev pub got_by_all : {T : Type 0} → (T → ℕ) → BundleInfo (Mark T) → ℕ
got_by_all w b = sum_by (λ (n : ℕ). got_by w (seat_in b n)) b.names

-- under each weight of items: what the seats put in came out of this list, and they got nothing
pub record PutsFrom {T : Type 0} (was now : List T) (old new : BundleInfo (Mark T)) : Type 0 where
  pub put_is : (w : T → ℕ) → put_by_all w new + sum_by w now ≡ put_by_all w old + sum_by w was
  pub got_is : (w : T → ℕ) → got_by_all w new ≡ got_by_all w old

-- under each weight of items: what the seats got went into this list, and they put nothing in
pub record GetsInto {T : Type 0} (was now : List T) (old new : BundleInfo (Mark T)) : Type 0 where
  pub put_is : (w : T → ℕ) → put_by_all w new ≡ put_by_all w old
  pub got_is : (w : T → ℕ) → got_by_all w new + sum_by w was ≡ got_by_all w old + sum_by w now

-- ---- calls that wait

-- bursts of at most this many insertions, one after another, each refused Full
pub data AllFull {T : Type 0} (size most : ℕ) : BundleInfo (Mark T) → BundleInfo (Mark T) → Type 0 where
  none_full : {b : BundleInfo (Mark T)} → AllFull size most b b
  one_more_full : {a b c : BundleInfo (Mark T)} → (upper : ℤ) → AllFull size most a b → RefusesBurst size most b c (Full upper) → AllFull size most a c

-- a burst of insertions, after any number that were refused Full
pub record InsertsBurstAfterFull {T : Type 0} (size : ℕ) (xs : List T) (k j : ℕ) (old new : BundleInfo (Mark T)) : Type 0 where
  pub then : BundleInfo (Mark T)
  pub full : AllFull size (length xs) old then
  pub inserts : InsertsBurst size xs k j then new

-- only a bundle that drew all its tickets is worn, and no tries end Full
abbrev pub RefusesWaitingBurst : {T : Type 0} → ℕ → ℕ → BundleInfo (Mark T) → BundleInfo (Mark T) → BurstFault → Type 0
RefusesWaitingBurst size most old new Worn = IsWornBundle old new
RefusesWaitingBurst {T} size most old new Closed = (then : BundleInfo (Mark T)) × AllFull size most old then × RefusesBurst size most then new Closed
RefusesWaitingBurst size most old new (Full upper) = ⊥

-- bursts of at most this many deletions, one after another, each refused Empty
pub data AllEmpty {T : Type 0} (size most : ℕ) : BundleInfo (Mark T) → BundleInfo (Mark T) → Type 0 where
  none_empty : {b : BundleInfo (Mark T)} → AllEmpty size most b b
  one_more_empty : {a b c : BundleInfo (Mark T)} → (lower : ℤ) → AllEmpty size most a b → RefusesBurstOut size most b c (deletion.Empty lower) → AllEmpty size most a c

-- a burst of deletions, after any number that were refused Empty
pub record DeletesBurstAfterEmpty {T : Type 0} (size most : ℕ) (ys : List T) (k : ℕ) (old new : BundleInfo (Mark T)) : Type 0 where
  pub then : BundleInfo (Mark T)
  pub empty : AllEmpty size most old then
  pub deletes : DeletesBurst size most ys k then new

-- only a bundle that drew all its tickets is worn, and no tries end Empty
abbrev pub RefusesWaitingBurstOut : {T : Type 0} → BundleInfo (Mark T) → BundleInfo (Mark T) → DeleteFault → Type 0
RefusesWaitingBurstOut old new deletion.Worn = IsWornBundle old new
RefusesWaitingBurstOut old new (deletion.Empty lower) = ⊥
