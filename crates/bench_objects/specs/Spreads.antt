-- The best, the median and the worst of several numbers.
use Rattle.std.specs.Prelude.{ℕ, ◌-◌, ◌/◌, ◌≡◌, List, length, slice_index}
use Rattle.std.specs.List.Sorted.{IsNonDecreasing, IsPermutation}

-- the first, the middle and the last of the numbers, in rising order
pub record IsSpread (times : List ℕ) (best median worst : ℕ) : Type 0 where
  pub sorted : List ℕ
  pub same : IsPermutation times sorted
  pub rising : IsNonDecreasing sorted
  pub best_is : best ≡ slice_index sorted 0
  pub median_is : median ≡ slice_index sorted (length times / 2)
  pub worst_is : worst ≡ slice_index sorted (length times - 1)
