-- What seats and tallies know of one history.
use Rattle.std.specs.Prelude.{ℕ, ◌<◌, ◌≡◌, ◌⊎◌, ◌==◌, ◌||◌, Bool, false, cond, List, [], ◌∷◌, ◌++◌, length, nat_lt}
use Rattle.std.specs.List.{filter}

-- `seen` is a prefix of `h`
abbrev pub Begins : {M : Type 0} → List M → List M → Type 0
Begins {M} seen h = (rest : List M) × (seen ++ rest ≡ h)

-- the name is in the list
abbrev pub In : ℕ → List ℕ → Type 0
In n [] = ⊥
In n (m ∷ names) = (n ≡ m) ⊎ In n names

-- no name occurs twice
abbrev pub AreApart : List ℕ → Type 0
AreApart [] = Unit {0}
AreApart (n ∷ names) = (In n names → ⊥) × AreApart names

abbrev pub is_in : ℕ → List ℕ → Bool
is_in n [] = false
is_in n (m ∷ names) = (n == m) || is_in n names

-- the marks of one name
abbrev pub marks_of : {M : Type 0} → (M → ℕ) → ℕ → List M → List M
marks_of {M} seat_of name h = filter (λ (m : M). seat_of m == name) h

-- the marks of these names
abbrev pub mine : {M : Type 0} → (M → ℕ) → List ℕ → List M → List M
mine {M} seat_of names seen = filter (λ (m : M). is_in (seat_of m) names) seen

-- a seat or tally with these names has seen a prefix of h, and no mark of these names comes after that prefix
pub record Knows {M : Type 0} (seat_of : M → ℕ) (names : List ℕ) (seen h : List M) : Type 0 where
  pub begins : Begins seen h
  pub own : (n : ℕ) → In n names → marks_of seat_of n h ≡ marks_of seat_of n seen

-- the longer of two prefixes of one history
abbrev pub longer_of : {M : Type 0} → List M → List M → List M
longer_of s t = cond (nat_lt (length s) (length t)) t s

-- every seat's name is in the list
abbrev pub IsWhole : ℕ → List ℕ → Type 0
IsWhole seats names = (n : ℕ) → n < seats → In n names
