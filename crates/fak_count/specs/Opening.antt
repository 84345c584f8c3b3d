-- The ranges of what rooms and credits are opened with, and the faults outside them.
use Rattle.std.specs.Prelude.{ℕ, ◌≤◌}
use Rattle.fak_model.specs.Limits.{IsNumberOfSeats, IsStint}
use Rattle.fak_count.specs.declared.fault.OpenFault.{OpenFault}
use Rattle.fak_count.specs.declared.fault.OpenFault.TheVariants.{BadSize, BadSeats, BadStint, Memory}

-- the ranges of a bound or start, a number of seats and a stint
abbrev pub IsCount : ℕ → Type 0
IsCount count = count ≤ 4294967296

abbrev pub IsInRange : ℕ → ℕ → ℕ → Type 0
IsInRange count seats stint = IsCount count × IsNumberOfSeats seats × IsStint stint

-- the first of the three that is out of range
abbrev pub IsRangeFault : ℕ → ℕ → ℕ → OpenFault → Type 0
IsRangeFault count seats stint BadSize = ¬ IsCount count
IsRangeFault count seats stint BadSeats = IsCount count × ¬ IsNumberOfSeats seats
IsRangeFault count seats stint BadStint = IsCount count × IsNumberOfSeats seats × ¬ IsStint stint
IsRangeFault count seats stint Memory = ⊥

-- memory is allocated last
abbrev pub IsOpenFault : ℕ → ℕ → ℕ → OpenFault → Type 0
IsOpenFault count seats stint Memory = IsInRange count seats stint
IsOpenFault count seats stint fault = IsRangeFault count seats stint fault
