-- The items that a closed queue has left.
use Rattle.std.specs.Prelude.{ℕ, zero, suc, ◌+◌, ◌%◌, ◌<◌, ◌≤◌, ◌^◌, ◌≡◌, List, [], ◌∷◌, ◌++◌, length, Option, Some, None}
use mathlib.Core.Option.{some, none}
use mathlib.Core.Option as maybe
use lib.ListN.{get_elem?}

abbrev pub item_in : {T : Type 0} → maybe.Option (Option T) → List T
item_in none = []
item_in (some None) = []
item_in (some (Some x)) = x ∷ []

-- the items in the cells of the tickets from k on, this many of them, in a ring of `size` cells
abbrev pub items_left : {T : Type 0} → ℕ → List (Option T) → ℕ → ℕ → List T
items_left size cells k zero = []
items_left size cells k (suc n) = item_in (get_elem? cells (k % size)) ++ items_left size cells (suc k) n

-- each of the next cells has an item
pub record AreLeft {T : Type 0} (size : ℕ) (cells : List (Option T)) (next count : ℕ) : Type 0 where
  pub some_cell : 0 < size
  pub fit : count ≤ size
  pub few : next + count < 2 ^ 63
  pub each : length (items_left size cells next count) ≡ count
