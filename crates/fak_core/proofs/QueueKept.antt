-- What is true of a queue core between any two steps.
use Rattle.std.specs.Prelude.{◌≡◌, ℕ, ◌+◌, ◌*◌, ◌/◌, ◌%◌, ◌≤◌, List, Bool, true, false, Option, Some}
use Rattle.fak_model.specs.declared.queue.Stage.{Stage}
use Rattle.fak_model.specs.declared.queue.Stage.TheVariants as made
use Rattle.fak_core.proofs.Common.{Phase, Idle, TestUp, AddUp, BackUp, TicketIn, TurnIn, StoreItem, SetFull, EndInsert, TestLow, SubLow, BackLow, TicketOut, TurnOut, LoadItem, SetFree, EndDelete, SetShut, QueueState, Fill, Take, Close, Mark, count, puts, gots, upper_count, lower_count, Has, stage, item_of, IsLegalPast}

-- the stage that the marks show for this phase
abbrev pub shown : {A : Type 0} → Phase A → Stage A
shown Idle = made.Idle
shown (TestUp x) = made.Idle
shown (AddUp x) = made.Idle
shown (BackUp x) = made.Withdrawing
shown (TicketIn x) = made.Claimed
shown (TurnIn k x) = made.Putting k x
shown (StoreItem k x) = made.Putting k x
shown (SetFull k x) = made.Putting k x
shown (EndInsert k) = made.Filled k
shown TestLow = made.Idle
shown SubLow = made.Idle
shown BackLow = made.WithdrawingOut
shown TicketOut = made.ClaimedOut
shown (TurnOut k) = made.Getting k
shown (LoadItem k) = made.Getting k
shown (SetFree k) = made.Getting k
shown (EndDelete k) = made.Taken k
shown SetShut = made.Idle

-- the item of the same cell in the round before was taken
abbrev pub TakenBefore : {A : Type 0} → ℕ → List (Mark A) → ℕ → Type 0
TakenBefore size h k = (j : ℕ) → k ≡ j + size → Has (Take j) h

-- what a seat knows between the load that found its turn and the store that hands the cell on
abbrev pub IsReady : {A : Type 0} → ℕ → List (Mark A) → (ℕ → Option A) → Phase A → Type 0
IsReady size h cell (StoreItem k x) = TakenBefore size h k
IsReady size h cell (SetFull k x) = TakenBefore size h k × (cell (k % size) ≡ Some x)
IsReady size h cell (LoadItem k) = Has (Fill k) h
IsReady size h cell (SetFree k) = Has (Fill k) h
IsReady size h cell _ = Unit {0}

-- the turn words show for each ticket whether its cell was filled and whether it was taken from
pub record Turns {A : Type 0} (size : ℕ) (h : List (Mark A)) (turn : ℕ → ℕ) : Type 0 where
  pub filled_up : (k : ℕ) → Has (Fill k) h → 2 * (k / size) + 1 ≤ turn (k % size)
  pub up_filled : (k : ℕ) → 2 * (k / size) + 1 ≤ turn (k % size) → Has (Fill k) h
  pub taken_up : (k : ℕ) → Has (Take k) h → 2 * (k / size) + 2 ≤ turn (k % size)
  pub up_taken : (k : ℕ) → 2 * (k / size) + 2 ≤ turn (k % size) → Has (Take k) h

-- the cell of a ticket that is filled and not yet taken from has its item
abbrev pub Cells : {A : Type 0} → ℕ → List (Mark A) → (ℕ → Option A) → Type 0
Cells size h cell = (k : ℕ) → Has (Fill k) h → (Has (Take k) h → ⊥) → cell (k % size) ≡ item_of h k

-- the bit is set exactly if a Close is in the past
abbrev pub TellsShut : {A : Type 0} → List (Mark A) → Bool → Type 0
TellsShut h b = (b ≡ true → Has Close h) × (b ≡ false → Has Close h → ⊥)

pub record IsKept {A : Type 0} (size : ℕ) (st : QueueState A) : Type 0 where
  pub legal : IsLegalPast size st.past
  pub upper : st.upper ≡ upper_count st.past
  pub lower : st.lower ≡ lower_count st.past
  pub draws_in : st.draws_in ≡ count puts st.past
  pub draws_out : st.draws_out ≡ count gots st.past
  pub phases : (s : ℕ) → shown (st.phase s) ≡ stage st.past s
  pub ready : (s : ℕ) → IsReady size st.past st.cell (st.phase s)
  pub turns : Turns size st.past st.turn
  pub cells : Cells size st.past st.cell
  pub closed : TellsShut st.past st.shut
