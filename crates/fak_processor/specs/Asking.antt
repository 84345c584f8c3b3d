-- The looks of a processor at the ready queue, each of which is asked of the gate.
use Rattle.std.specs.Prelude.{◌≡◌, ℕ, ◌+◌, ◌-◌, Bool, cond, nat_lt}
use Rattle.fak_model.specs.declared.queue.Kind.{Kind}
use Rattle.fak_model.specs.declared.queue.Kind.TheVariants.{Got, NoItem, OverOut}
use Rattle.fak_model.specs.declared.queue.Mark.{Mark}
use Rattle.fak_model.specs.Queue.{count}
use Rattle.fak_model.specs.Calls.{SeatInfo, mine_of}
use Rattle.fak_queue.specs.Queues.{seat_of}
use Rattle.fak_run.specs.Gates.{HasPassed}

-- a look is a deletion: it got an item, or found none at its test or at its subtraction
abbrev pub look_of : {A : Type 0} → Kind A → ℕ
look_of (Got x) = 1
look_of NoItem = 1
look_of OverOut = 1
look_of _ = 0

-- how many looks at its queue the seat has made, by its own marks
abbrev pub looks_of : {A : Type 0} → SeatInfo (Mark A) → ℕ
looks_of s = count look_of (mine_of seat_of s)

-- how many of them are counted: the largest number that a word holds stays
abbrev pub counted : ℕ → ℕ
counted looks = cond (nat_lt looks 18446744073709551615) looks 18446744073709551615

-- since the seat had made `before` looks, each look of it was asked of the gate and passed, and was counted
pub record AreAsked {A : Type 0} (answers : ℕ → Bool → Type 0) (before : ℕ) (seat : SeatInfo (Mark A)) (made : ℕ) : Type 0 where
  pub looks : ℕ
  pub seen : looks_of seat ≡ before + looks
  pub made_are : made ≡ counted looks
  pub passed : HasPassed answers made

-- each look that the seat made in between was asked of the gate and passed
abbrev pub HasAsked : {A : Type 0} → (ℕ → Bool → Type 0) → SeatInfo (Mark A) → SeatInfo (Mark A) → Type 0
HasAsked answers old new = HasPassed answers (counted (looks_of new - looks_of old))
