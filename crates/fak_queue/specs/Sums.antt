-- What seats put into a queue and got out of it, added up under a weight of items.
use Rattle.std.specs.Prelude.{ℕ, ◌+◌, ◌≡◌, List, [], ◌∷◌, ◌++◌, map}
use Rattle.std.specs.List.{sum_by}
use Rattle.fak_model.specs.declared.queue.Mark.{Mark}
use Rattle.fak_model.specs.Queue.{queue_rules, count}
use Rattle.fak_model.specs.Calls.{SeatInfo, TallyInfo, tally_of, mine_of, IsJoined, IsJoinOf}
use Rattle.fak_model.specs.Weights.{put_of, got_of}
use Rattle.fak_queue.specs.Queues.{seat_of}
use Rattle.fak_queue.specs.BundleCalls.{BundleInfo, seat_in}
use Rattle.fak_queue.specs.Bundling.{tally_of_bundle}

-- what the items weigh that a seat put in, and those that it got out
abbrev pub put_by : {A : Type 0} → (A → ℕ) → SeatInfo (Mark A) → ℕ
put_by w s = count (put_of w) (mine_of seat_of s)

abbrev pub got_by : {A : Type 0} → (A → ℕ) → SeatInfo (Mark A) → ℕ
got_by w s = count (got_of w) (mine_of seat_of s)

-- calls of a seat that put in and got out this much, under this weight
pub record Adds {A : Type 0} (w : A → ℕ) (put got : ℕ) (old new : SeatInfo (Mark A)) : Type 0 where
  pub put_is : put_by w new ≡ put_by w old + put
  pub got_is : got_by w new ≡ got_by w old + got

-- the seats of a bundle, in its order: each has seen what the bundle has seen
abbrev pub seats_in : {A : Type 0} → BundleInfo (Mark A) → List (SeatInfo (Mark A))
seats_in bundle = map (seat_in bundle) bundle.names

-- the seats of this list were joined into this tally, one at a time or a bundle's at once; the latest are first
pub data AreJoined {A : Type 0} (size : ℕ) : List (SeatInfo (Mark A)) → TallyInfo (Mark A) → Type 0 where
  joined_first : (s : SeatInfo (Mark A)) → {t : TallyInfo (Mark A)} → t ≡ tally_of s → AreJoined size (s ∷ []) t
  joined_next : {seats : List (SeatInfo (Mark A))} → {s : SeatInfo (Mark A)} → {t both : TallyInfo (Mark A)} → AreJoined size seats t → IsJoined (queue_rules size) t s both → AreJoined size (s ∷ seats) both
  joined_bundle_first : (b : BundleInfo (Mark A)) → {t : TallyInfo (Mark A)} → t ≡ tally_of_bundle b → AreJoined size (seats_in b) t
  joined_bundle_next : {seats : List (SeatInfo (Mark A))} → (b : BundleInfo (Mark A)) → {t both : TallyInfo (Mark A)} → AreJoined size seats t → IsJoinOf (queue_rules size) t (tally_of_bundle b) both → AreJoined size (seats_in b ++ seats) both

-- what these seats put in they got out, or it is left
abbrev pub Balances : {A : Type 0} → (A → ℕ) → List (SeatInfo (Mark A)) → List A → Type 0
Balances w seats left = sum_by (put_by w) seats ≡ sum_by (got_by w) seats + sum_by w left
