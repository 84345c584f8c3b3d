-- Known schedules of a queue core, on both sides of the definitions of progress.
use Rattle.std.specs.Prelude.{ℕ, List, [], ◌∷◌, ◌++◌, replicate}
use Rattle.fak_core.specs.QueueMoves.{QueueState}
use Rattle.fak_core.specs.QueueProgress.{round_robin}
use Rattle.fak_core.specs.QueueSchedule.{QueueEvent, Inserts, Deletes, Advances, reached}

-- this many steps of a seat
abbrev pub steps_of : ℕ → ℕ → List (QueueEvent ℕ)
steps_of seat n = replicate n (Advances seat)

-- a queue of two cells: seat 0 has drawn insertion 0, seat 1 has completed insertion 1, and seat 2 waits with deletion
-- 0
abbrev pub waiting : QueueState ℕ
waiting = reached 2 (Inserts 0 10 ∷ steps_of 0 3 ++ Inserts 1 11 ∷ steps_of 1 7 ++ Deletes 2 ∷ steps_of 2 3)

-- a queue of two cells: seat 0 waits with deletion 0 for seat 1, which has drawn insertion 0
abbrev pub held_up : QueueState ℕ
held_up = reached 2 (Inserts 1 10 ∷ steps_of 1 3 ++ Inserts 2 11 ∷ steps_of 2 7 ++ Deletes 0 ∷ steps_of 0 3)

-- a queue of one cell: seat 0 has begun an insertion
abbrev pub begun : QueueState ℕ
begun = reached 1 (Inserts 0 10 ∷ [])

-- this many rounds of seats 0 and 1
abbrev pub rounds_of_two : ℕ → List (List (QueueEvent ℕ))
rounds_of_two n = replicate n (round_robin 2)
