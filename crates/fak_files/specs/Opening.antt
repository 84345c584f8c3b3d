-- The ranges of what a file table is opened with, and the faults outside them.
use Rattle.std.specs.Prelude.{ℕ, ◌≤◌}
use Rattle.fak_model.specs.Limits.{IsNumberOfSeats, IsStint}
use Rattle.fak_files.specs.declared.fault.OpenFault.{OpenFault}
use Rattle.fak_files.specs.declared.fault.OpenFault.TheVariants.{BadSize, BadSeats, BadStint, Memory}

abbrev pub IsNumberOfEntries : ℕ → Type 0
IsNumberOfEntries entries = (1 ≤ entries) × (entries ≤ 16)

abbrev pub IsInRange : ℕ → ℕ → ℕ → Type 0
IsInRange entries seats stint = IsNumberOfEntries entries × IsNumberOfSeats seats × IsStint stint

-- the first of the three that is out of range
abbrev pub IsRangeFault : ℕ → ℕ → ℕ → OpenFault → Type 0
IsRangeFault entries seats stint BadSize = ¬ IsNumberOfEntries entries
IsRangeFault entries seats stint BadSeats = IsNumberOfEntries entries × ¬ IsNumberOfSeats seats
IsRangeFault entries seats stint BadStint = IsNumberOfEntries entries × IsNumberOfSeats seats × ¬ IsStint stint
IsRangeFault entries seats stint Memory = ⊥

-- memory is allocated last
abbrev pub IsOpenFault : ℕ → ℕ → ℕ → OpenFault → Type 0
IsOpenFault entries seats stint Memory = IsInRange entries seats stint
IsOpenFault entries seats stint fault = IsRangeFault entries seats stint fault
