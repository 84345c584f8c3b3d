-- Percentiles of several numbers.
use Rattle.std.specs.Prelude.{ℕ, ◌-◌, ◌/◌, ◌≡◌, List, length, slice_index}
use Rattle.std.specs.List.Sorted.{IsNonDecreasing, IsPermutation}

-- the middle one of the numbers in rising order; the one with 1 % of the others after it, and the one with 0.1 %; and the last
pub record IsTail (times : List ℕ) (median p99 p999 worst : ℕ) : Type 0 where
  pub sorted : List ℕ
  pub same : IsPermutation times sorted
  pub rising : IsNonDecreasing sorted
  pub median_is : median ≡ slice_index sorted (length times / 2)
  pub p99_is : p99 ≡ slice_index sorted (length times - 1 - (length times - 1) / 100)
  pub p999_is : p999 ≡ slice_index sorted (length times - 1 - (length times - 1) / 1000)
  pub worst_is : worst ≡ slice_index sorted (length times - 1)
