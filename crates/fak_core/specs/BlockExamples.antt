-- Known blocks of a queue core of two cells, on both sides of the definitions.
use Rattle.std.specs.Prelude.{ℕ, pos, List, [], ◌∷◌}
use Rattle.fak_core.specs.QueueMoves.{QueueState}
use Rattle.fak_core.specs.QueueSchedule.{opening}
use Rattle.fak_core.specs.QueueBlocks.{after_adds, after_backs, after_draws, tested}

-- seats 0, 1 and 2 with an item each; the first two of them; the last of them
abbrev pub three : List (ℕ × ℕ)
three = (0, 10) ∷ (1, 11) ∷ (2, 12) ∷ []

abbrev pub first_two : List (ℕ × ℕ)
first_two = (0, 10) ∷ (1, 11) ∷ []

abbrev pub last_one : List (ℕ × ℕ)
last_one = (2, 12) ∷ []

-- the tests of three insertions have passed
abbrev pub to_add : QueueState ℕ
to_add = tested 2 opening three

-- one add of 3 claimed for them, and two were granted
abbrev pub added : QueueState ℕ
added = after_adds 2 to_add three

-- the third was withdrawn, and the other two have drawn tickets 0 and 1
abbrev pub drawn : QueueState ℕ
drawn = after_draws 2 (after_backs 2 added last_one) first_two

-- a queue with one item
abbrev pub one_left : QueueState ℕ
one_left = record opening { lower = pos 1 }
