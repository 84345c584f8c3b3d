-- The percentiles that are read off a sorted list are those of the list.
use Rattle.std.proofs.Common.{◌≡◌, ℕ, ◌-◌, ◌/◌, ◌<◌, List, length, slice_index_or, arith, subst}
use Rattle.std.proofs.lemmas.List.{get_or_read_under}
use Rattle.std.specs.List.Sorted.{IsNonDecreasing, IsPermutation}
use Rattle.bench_objects.specs.Tails.{IsTail}

pub tail : (times sorted : List ℕ) (n median p99 p999 worst : ℕ) → n ≡ length times → n ≡ length sorted → 0 < n → IsPermutation times sorted → IsNonDecreasing sorted
    → median ≡ slice_index_or sorted (n / 2) median → p99 ≡ slice_index_or sorted (n - 1 - (n - 1) / 100) p99
    → p999 ≡ slice_index_or sorted (n - 1 - (n - 1) / 1000) p999 → worst ≡ slice_index_or sorted (n - 1) worst
    → IsTail times median p99 p999 worst
tail times sorted n median p99 p999 worst long sorted_long some same rising at_median at_p99 at_p999 at_worst = record {
  sorted = sorted;
  same = same;
  rising = rising;
  median_is = subst (λ m. median ≡ slice_index_or sorted (m / 2) 0) long (get_or_read_under sorted (n / 2) n median 0 at_median (omega (arith, some)) sorted_long);
  p99_is = subst (λ m. p99 ≡ slice_index_or sorted (m - 1 - (m - 1) / 100) 0) long (get_or_read_under sorted (n - 1 - (n - 1) / 100) n p99 0 at_p99 (omega (arith, some)) sorted_long);
  p999_is = subst (λ m. p999 ≡ slice_index_or sorted (m - 1 - (m - 1) / 1000) 0) long (get_or_read_under sorted (n - 1 - (n - 1) / 1000) n p999 0 at_p999 (omega (arith, some)) sorted_long);
  worst_is = subst (λ m. worst ≡ slice_index_or sorted (m - 1) 0) long (get_or_read_under sorted (n - 1) n worst 0 at_worst (omega (arith, some)) sorted_long);
}
