-- What the parts of a call have done in the queue so far. In between the seat may have seen more.
use Rattle.std.specs.Prelude.{◌≡◌, ◌⊎◌, ℕ, ◌<◌, List, [], ◌∷◌, ◌++◌, Some}
use Rattle.std.specs.List.{All, flat_map}
use Rattle.fak_model.specs.declared.queue.Kind.{Kind}
use Rattle.fak_model.specs.declared.queue.Kind.TheVariants as made
use Rattle.fak_model.specs.declared.queue.Mark.{Mark}
use Rattle.fak_model.specs.Calls.{SeatInfo, mine_of}
use Rattle.fak_model.specs.Histories.{AreNamed}
use Rattle.fak_model.specs.Queue.{IsQueueHistory, queue_rules, count, puts, gots, items_put, item_at}
use Rattle.fak_model.specs.Seats.{Begins}
use Rattle.fak_queue.specs.Drained.{IsDrained}
use Rattle.fak_queue.specs.Queues.{made_by, seat_of, before_own, drawn_by}
use Rattle.fak_queue.specs.Retries.{RefusedInsertion, kinds_not_in, IsFull, RefusedDeletion, kinds_not_out}

-- the seat has left marks of these kinds, and may have seen more
pub record HasMade {T : Type 0} (size : ℕ) (kinds : List (Kind T)) (old now : SeatInfo (Mark T)) : Type 0 where
  pub same_seat : now ≡ record old { seen = now.seen }
  pub begins : Begins old.seen now.seen
  pub mine : mine_of seat_of now ≡ mine_of seat_of old ++ made_by old.name kinds
  pub lawful : IsQueueHistory size now.seen
  pub named : AreNamed (queue_rules size) now.object.seats now.seen

-- nothing but looks
abbrev pub Looked : {T : Type 0} → ℕ → SeatInfo (Mark T) → SeatInfo (Mark T) → Type 0
Looked size old now = (now ≡ old) ⊎ HasMade size [] old now

-- ---- refused claims

-- at least one claim of room, and all of them found the queue full
pub record HasFoundFull {T : Type 0} (size : ℕ) (old now : SeatInfo (Mark T)) : Type 0 where
  pub within : drawn_by old < old.stint
  pub drawn : drawn_by now ≡ drawn_by old
  pub first : RefusedInsertion
  pub later : List RefusedInsertion
  pub full : All IsFull (first ∷ later)
  pub made : HasMade size (flat_map kinds_not_in (first ∷ later)) old now

abbrev pub FullSoFar : {T : Type 0} → ℕ → SeatInfo (Mark T) → SeatInfo (Mark T) → Type 0
FullSoFar size old now = (now ≡ old) ⊎ HasFoundFull size old now

-- at least one claim of an item, and all of them found the queue empty
pub record HasFoundEmpty {T : Type 0} (size : ℕ) (old now : SeatInfo (Mark T)) : Type 0 where
  pub within : drawn_by old < old.stint
  pub first : RefusedDeletion
  pub later : List RefusedDeletion
  pub made : HasMade size (flat_map kinds_not_out (first ∷ later)) old now

-- after such a claim the queue was not drained
pub record WasNotDrained {T : Type 0} (size : ℕ) (old now : SeatInfo (Mark T)) : Type 0 where
  pub found : SeatInfo (Mark T)
  pub empty : HasFoundEmpty size old found
  pub not_drained : IsDrained found.seen → ⊥
  pub looks : Looked size found now

abbrev pub EmptySoFar : {T : Type 0} → ℕ → SeatInfo (Mark T) → SeatInfo (Mark T) → Type 0
EmptySoFar size old now = (now ≡ old) ⊎ HasFoundEmpty size old now

-- ---- granted claims

-- a granted insertion as in `ClaimsIn`
pub record HasClaimedIn {T : Type 0} (size k : ℕ) (x : T) (old now : SeatInfo (Mark T)) : Type 0 where
  pub within : drawn_by old < old.stint
  pub made : HasMade size (made.ClaimIn ∷ made.Put x ∷ []) old now
  pub ticket : count puts (before_own 1 old now) ≡ k
  pub put : item_at (items_put now.seen) k ≡ Some x

-- a granted deletion as in `ClaimsOut`
pub record HasClaimedOut {T : Type 0} (size k : ℕ) (old now : SeatInfo (Mark T)) : Type 0 where
  pub within : drawn_by old < old.stint
  pub item : T
  pub made : HasMade size (made.ClaimOut ∷ made.Got item ∷ []) old now
  pub ticket : count gots (before_own 1 old now) ≡ k
  pub put : item_at (items_put now.seen) k ≡ Some item

-- ---- calls that have ended

-- the end of an insertion, and of a deletion
abbrev pub end_in_of : {T : Type 0} → Kind T → ℕ
end_in_of made.EndIn = 1
end_in_of _ = 0

abbrev pub end_out_of : {T : Type 0} → Kind T → ℕ
end_out_of made.EndOut = 1
end_out_of _ = 0
