-- The ranges that shared objects may be opened with. `limits.rt` has the same numbers as constants.
use Rattle.std.specs.Prelude.{ℕ, ◌*◌, ◌≤◌}
use Rattle.fak_model.specs.declared.large_fault.LargeFault.{LargeFault}
use Rattle.fak_model.specs.declared.large_fault.LargeFault.TheVariants.{BadSize, BadSeats, BadStint, Memory}

-- the cells of a queue
abbrev pub largest_size : ℕ
largest_size = 4096

abbrev pub most_seats : ℕ
most_seats = 64

abbrev pub IsNumberOfSeats : ℕ → Type 0
IsNumberOfSeats seats = (1 ≤ seats) × (seats ≤ most_seats)

-- 2^40 tickets, changes of a count, or holds
abbrev pub longest_stint : ℕ
longest_stint = 1099511627776

abbrev pub IsStint : ℕ → Type 0
IsStint stint = (1 ≤ stint) × (stint ≤ longest_stint)

-- ---- a large object

-- the cells of a large queue: 2^24
abbrev pub large_size : ℕ
large_size = 16777216

-- the seats of a large object, and so of any object
abbrev pub large_seats : ℕ
large_seats = 1024

abbrev pub IsLargeNumberOfSeats : ℕ → Type 0
IsLargeNumberOfSeats seats = (1 ≤ seats) × (seats ≤ large_seats)

-- 2^50 tickets, changes of a count, or holds, by all seats together
abbrev pub most_tickets : ℕ
most_tickets = 1125899906842624

abbrev pub IsLargeStint : ℕ → ℕ → Type 0
IsLargeStint seats stint = (1 ≤ stint) × (seats * stint ≤ most_tickets)

-- all in range; `Fits` states that the size, bound, start or number of entries is
abbrev pub IsInLargeRange : Type 0 → ℕ → ℕ → Type 0
IsInLargeRange Fits seats stint = Fits × IsLargeNumberOfSeats seats × IsLargeStint seats stint

-- the first value that is out of range; Memory only if all are in range
abbrev pub IsLargeFault : Type 0 → ℕ → ℕ → LargeFault → Type 0
IsLargeFault Fits seats stint BadSize = ¬ Fits
IsLargeFault Fits seats stint BadSeats = Fits × ¬ IsLargeNumberOfSeats seats
IsLargeFault Fits seats stint BadStint = Fits × IsLargeNumberOfSeats seats × ¬ IsLargeStint seats stint
IsLargeFault Fits seats stint Memory = IsInLargeRange Fits seats stint

-- a value is out of range; a call that allocates nothing returns no other fault
abbrev pub IsOfRange : LargeFault → Type 0
IsOfRange Memory = ⊥
IsOfRange _ = Unit {0}
