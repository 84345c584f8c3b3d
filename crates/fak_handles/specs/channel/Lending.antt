-- Which ends of a shared channel are idle, who waits for one, and what the calls of a lender do.
use Rattle.std.specs.Prelude.{◌≡◌, ◌≢◌, ◌⊎◌, ℕ, zero, suc, ◌+◌, ◌-◌, ◌/◌, ◌%◌, ◌^◌, ◌<◌, ◌≤◌, min, ℤ, pos, Bool, true, false, List, IsTrue, Option, Some, None, slice_index}
use Rattle.std.specs.Int.{bit_at}
use Rattle.fak_model.specs.Limits.{IsLargeNumberOfSeats}
use Rattle.fak_handles.specs.declared.channel.lending.Lending.{Lending}
use Rattle.fak_handles.specs.declared.channel.lending.BorrowOutcome.{BorrowOutcome}
use Rattle.fak_handles.specs.declared.channel.lending.BorrowOutcome.TheVariants.{Lent, Worn, GivenUp, Waits}

-- bit k of these words, 0 or 1
abbrev pub bit_of : List ℕ → ℕ → ℕ
bit_of words k = bit_at (slice_index words (k / 64)) (k % 64)

-- bit t of this word is set, and none below it
pub record IsLowest (word t : ℕ) : Type 0 where
  pub small : t < 64
  pub set : bit_at word t ≡ 1
  pub below : (i : ℕ) → i < t → bit_at word i ≡ 0

-- end k is idle: it is one of the ends, and its bit is set
abbrev pub IsIdle : Lending → ℕ → Type 0
IsIdle l k = (k < l.count) × (bit_of l.idle k ≡ 1)

-- end k is one of the ends, and not idle
pub record IsLent (l : Lending) (k : ℕ) : Type 0 where
  pub one : k < l.count
  pub small : k < 1024
  pub clear : bit_of l.idle k ≡ 0

abbrev pub NoneIsIdle : Lending → Type 0
NoneIsIdle l = (k : ℕ) → IsIdle l k → ⊥

abbrev pub HasIdle : Lending → Type 0
HasIdle l = (k : ℕ) × IsIdle l k

abbrev pub AreWorn : Lending → Type 0
AreWorn l = l.count ≤ l.worn

-- ---- the law

-- nobody waits, or a wake-up is under way
abbrev pub IsServed : Lending → Type 0
IsServed l = (l.waiting ≡ 0) ⊎ (l.woken ≢ 0)

-- if an end is idle, or all are worn, then nobody waits, or a wake-up is under way
pub record NobodyWaitsInVain (l : Lending) : Type 0 where
  pub idle : (k : ℕ) → IsIdle l k → IsServed l
  pub worn : AreWorn l → IsServed l

-- ---- what changes

-- the ends, and those of them that are worn
pub record SameEnds (l m : Lending) : Type 0 where
  pub count : m.count ≡ l.count
  pub worn : m.worn ≡ l.worn

abbrev pub SameCallers : Lending → Lending → Type 0
SameCallers l m = (m.waiting ≡ l.waiting) × (m.woken ≡ l.woken)

-- end k was idle, and is lent now; no other is
pub record Takes (k : ℕ) (l m : Lending) : Type 0 where
  pub was_idle : IsIdle l k
  pub is_lent : IsLent m k
  pub others : (j : ℕ) → j ≢ k → bit_of m.idle j ≡ bit_of l.idle j
  pub same : SameEnds l m

-- end k was lent, and is idle now; no other is
pub record Returns (k : ℕ) (l m : Lending) : Type 0 where
  pub was_lent : IsLent l k
  pub is_idle : IsIdle m k
  pub others : (j : ℕ) → j ≢ k → bit_of m.idle j ≡ bit_of l.idle j
  pub same : SameEnds l m
  pub waiting : m.waiting ≡ l.waiting

-- a wake-up is due: some caller waits, and none was woken, though an end is idle or all are worn
pub record IsDue (woken : ℕ) (l : Lending) : Type 0 where
  pub waits : l.waiting ≢ 0
  pub none_woken : woken ≡ 0
  pub something : HasIdle l ⊎ AreWorn l

-- a waiting caller is to be woken if that is due, and `woken` says so
pub record WakesIfDue (wakes : Bool) (woken : ℕ) (l : Lending) : Type 0 where
  pub due : IsTrue wakes → IsDue woken l × (l.woken ≡ 1)
  pub not_due : wakes ≡ false → l.woken ≡ woken

-- ---- the calls

pub record IsOpened (count : ℕ) (l : Lending) : Type 0 where
  pub count_is : l.count ≡ count
  pub all_idle : (k : ℕ) → k < count → IsIdle l k
  pub none_worn : l.worn ≡ 0
  pub nobody_waits : l.waiting ≡ 0
  pub nobody_woken : l.woken ≡ 0

-- no end is idle: all are worn, or callers have those that are not
abbrev pub AllAreWorn : Lending → Type 0
AllAreWorn l = NoneIsIdle l × AreWorn l

abbrev pub AllAreLent : Lending → Type 0
AllAreLent l = NoneIsIdle l × ¬ AreWorn l

abbrev pub Borrows : Bool → BorrowOutcome → Lending → Lending → Type 0
Borrows may_wait (Lent k) l m = Takes k l m × SameCallers l m
Borrows may_wait Worn l m = AllAreWorn l × (m ≡ l)
Borrows may_wait GivenUp l m = (may_wait ≡ false) × AllAreLent l × (m ≡ l)
Borrows may_wait Waits l m = (may_wait ≡ true) × AllAreLent l × (m ≡ record l { waiting = min (l.waiting + 1) (2 ^ 64 - 1) })

-- a caller waits no longer, and the next one is woken if that is due
pub record StopsWaiting (wakes : Bool) (l m : Lending) : Type 0 where
  pub waiting : m.waiting ≡ l.waiting - 1
  pub wakes_next : WakesIfDue wakes 0 m

-- the ends stay as they are, idle or not
pub record SameIdle (l m : Lending) : Type 0 where
  pub idle : m.idle ≡ l.idle
  pub count : m.count ≡ l.count

abbrev pub LooksAgain : Bool → BorrowOutcome → Bool → Lending → Lending → Type 0
LooksAgain in_time (Lent k) wakes l m = Takes k l m × StopsWaiting wakes l m
LooksAgain in_time Worn wakes l m = AllAreWorn l × SameIdle l m × (m.worn ≡ l.worn) × StopsWaiting wakes l m
LooksAgain in_time GivenUp wakes l m = (in_time ≡ false) × AllAreLent l × (wakes ≡ false) × (m ≡ record l { waiting = l.waiting - 1; woken = 0 })
LooksAgain in_time Waits wakes l m = (in_time ≡ true) × AllAreLent l × (wakes ≡ false) × (m ≡ record l { woken = 0 })

-- the call is refused if the end is not lent, and changes nothing then
abbrev pub OrRefuses : ℕ → (Bool → Type 0) → Option Bool → Lending → Lending → Type 0
OrRefuses k Does None l m = ¬ IsLent l k × (m ≡ l)
OrRefuses k Does (Some wakes) l m = IsLent l k × Does wakes

abbrev pub GivesBack : ℕ → Option Bool → Lending → Lending → Type 0
GivesBack k answer l m = OrRefuses k (λ wakes. Returns k l m × WakesIfDue wakes l.woken m) answer l m

pub record Retires (l m : Lending) : Type 0 where
  pub same : SameIdle l m
  pub worn : m.worn ≡ min (l.worn + 1) (2 ^ 64 - 1)
  pub waiting : m.waiting ≡ l.waiting

abbrev pub RetiresLent : ℕ → Option Bool → Lending → Lending → Type 0
RetiresLent k answer l m = OrRefuses k (λ wakes. Retires l m × WakesIfDue wakes l.woken m) answer l m

-- how many of the ends below this number are idle
abbrev pub idle_below : List ℕ → ℕ → ℕ
idle_below words zero = 0
idle_below words (suc k) = bit_of words k + idle_below words k

-- each end is idle or worn, and nobody waits
pub record IsAtRest (l : Lending) : Type 0 where
  pub few : l.count ≤ 1024
  pub all : idle_below l.idle l.count + l.worn ≡ l.count
  pub nobody : l.waiting ≡ 0

-- ---- the results as codes: 0 is done, 5 worn, 7 refused, 13 waits, 14 given up

abbrev pub loan_code : BorrowOutcome → ℤ
loan_code (Lent k) = pos 0
loan_code Worn = pos 5
loan_code GivenUp = pos 14
loan_code Waits = pos 13

-- the number that is written
abbrev pub lent_or : ℕ → BorrowOutcome → ℕ
lent_or number (Lent k) = k
lent_or number _ = number

abbrev pub return_code : Option Bool → ℤ
return_code None = pos 7
return_code (Some wakes) = pos 0

-- whether a waiting caller is to be woken; a refused call writes nothing
abbrev pub wakes_or : Bool → Option Bool → Bool
wakes_or before None = before
wakes_or before (Some wakes) = wakes

-- ---- the exported functions

abbrev pub OpensLending : ℤ → ℕ → Lending → Lending → Type 0
OpensLending code count l m = ((code ≡ pos 0) × IsLargeNumberOfSeats count × IsOpened count m) ⊎ ((code ≡ pos 8) × ¬ IsLargeNumberOfSeats count × (m ≡ l))

pub record LendsAs (code : ℤ) (may_wait : Bool) (number number' : ℕ) (l m : Lending) : Type 0 where
  pub loan : BorrowOutcome
  pub code_is : code ≡ loan_code loan
  pub number_is : number' ≡ lent_or number loan
  pub call : Borrows may_wait loan l m

pub record LendsAfterPark (code : ℤ) (in_time : Bool) (number number' : ℕ) (wakes : Bool) (l m : Lending) : Type 0 where
  pub loan : BorrowOutcome
  pub code_is : code ≡ loan_code loan
  pub number_is : number' ≡ lent_or number loan
  pub call : LooksAgain in_time loan wakes l m

-- a call that gives an end back, or retires it
pub record EndsLoan (Does : Option Bool → Lending → Lending → Type 0) (code : ℤ) (wakes wakes' : Bool) (l m : Lending) : Type 0 where
  pub answer : Option Bool
  pub code_is : code ≡ return_code answer
  pub wakes_is : wakes' ≡ wakes_or wakes answer
  pub call : Does answer l m
