-- The ranges of what semaphores are opened with, and the faults outside them.
use Rattle.std.specs.Prelude.{ℕ}
use Rattle.fak_model.specs.Limits.{IsNumberOfSeats, IsStint}
use Rattle.fak_count.specs.Opening.{IsCount}
use Rattle.fak_queue.specs.Refusals.{IsSize, IsLargeSize}
use Rattle.fak_sem.specs.declared.fault.OpenFault.{OpenFault}
use Rattle.fak_sem.specs.declared.fault.OpenFault.TheVariants.{BadSize, BadSeats, BadStint, Memory}

abbrev pub AreSizes : ℕ → ℕ → Type 0
AreSizes start size = IsCount start × IsSize size

abbrev pub IsInRange : ℕ → ℕ → ℕ → ℕ → Type 0
IsInRange start size seats stint = AreSizes start size × IsNumberOfSeats seats × IsStint stint

-- the first of the faults; memory is allocated last
abbrev pub IsOpenFault : ℕ → ℕ → ℕ → ℕ → OpenFault → Type 0
IsOpenFault start size seats stint BadSize = ¬ AreSizes start size
IsOpenFault start size seats stint BadSeats = AreSizes start size × ¬ IsNumberOfSeats seats
IsOpenFault start size seats stint BadStint = AreSizes start size × IsNumberOfSeats seats × ¬ IsStint stint
IsOpenFault start size seats stint Memory = IsInRange start size seats stint

-- ---- a large semaphore

abbrev pub AreLargeSizes : ℕ → ℕ → Type 0
AreLargeSizes start size = IsCount start × IsLargeSize size
