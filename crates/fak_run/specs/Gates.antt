-- What a gate returns, look by look.
use Rattle.std.specs.Prelude.{◌≡◌, ◌<◌, ℕ, Bool, true, false, cond, ◌+◌, ◌==◌}
use Rattle.fak_run.specs.declared.fault.Fault.{Fault}
use Rattle.fak_run.specs.declared.fault.Fault.TheVariants.{Gate}

-- the fault of a gate that may refuse, and did
abbrev pub IsOfGate : Bool → Fault → Type 0
IsOfGate refuses fault = (refuses ≡ true) × (fault ≡ Gate)

-- the number of the look after the one of this number; the largest number of a word stays the same
abbrev pub look_behind : ℕ → ℕ
look_behind made = cond (made == 18446744073709551615) made (made + 1)

-- if these are the gate's results, a processor has passed its first looks, this many
abbrev pub HasPassed : (ℕ → Bool → Type 0) → ℕ → Type 0
HasPassed answers looks = (k : ℕ) → k < looks → answers k true

-- it passed its first looks, counted from 0, and was refused at the next one
pub record IsRefused (answers : ℕ → Bool → Type 0) : Type 0 where
  pub look : ℕ
  pub passed : HasPassed answers look
  pub refused : answers look false
