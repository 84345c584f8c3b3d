-- What the histories of all shared objects have in common. A history is a list of marks, oldest first.
use Rattle.std.specs.Prelude.{ℕ, zero, suc, ◌+◌, ◌<◌, ◌≡◌, ◌==◌, List, [], ◌∷◌, ◌++◌, map}
use Rattle.std.specs.List.{All, filter, flat_map}

-- the rules of an object's histories: the seat of a mark; the word of a mark in its call; the words of each whole call;
-- which marks are fair after the marks before them
pub record Rules (M W C : Type 0) : Type 1 where
  pub seat_of : M → ℕ
  pub word_of : M → W
  pub words_of : C → List W
  pub IsFair : List M → M → Type 0

-- the words of a seat's marks, in order
abbrev pub words_by : {M W : Type 0} → (M → ℕ) → (M → W) → ℕ → List M → List W
words_by {M} seat_of word_of seat h = map word_of (filter (λ (m : M). seat_of m == seat) h)

abbrev pub seat_words : {M W C : Type 0} → Rules M W C → ℕ → List M → List W
seat_words rules seat h = words_by rules.seat_of rules.word_of seat h

-- all marks belong to the seats 0 to seats - 1
abbrev pub AreNamed : {M W C : Type 0} → Rules M W C → ℕ → List M → Type 0
AreNamed {M} rules seats h = All (λ (m : M). rules.seat_of m < seats) h

-- the sum of f over the seats 0 to n - 1
abbrev pub sum_below : (ℕ → ℕ) → ℕ → ℕ
sum_below f zero = 0
sum_below f (suc n) = sum_below f n + f n

-- these words, followed by the owed ones, are whole calls
abbrev pub Owes : {W C : Type 0} → (C → List W) → List W → List W → Type 0
Owes {W} {C} words_of words owed = (calls : List C) × (words ++ owed ≡ flat_map words_of calls)

-- these words are whole calls; the last may be cut short
abbrev pub AreCalls : {W C : Type 0} → (C → List W) → List W → Type 0
AreCalls {W} words_of words = (owed : List W) × Owes words_of words owed

-- the marks of each seat are whole calls, of which the last may be cut short, and each mark is fair after those before
-- it
pub record IsHistory {M W C : Type 0} (rules : Rules M W C) (h : List M) : Type 0 where
  pub calls : (seat : ℕ) → AreCalls rules.words_of (seat_words rules seat h)
  pub fair : (before : List M) (m : M) (after : List M) → before ++ m ∷ after ≡ h → rules.IsFair before m

-- no call of any seat is cut short
abbrev pub IsAtRest : {M W C : Type 0} → Rules M W C → List M → Type 0
IsAtRest rules h = (seat : ℕ) → Owes rules.words_of (seat_words rules seat h) []
