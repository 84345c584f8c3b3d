-- What is read off a sorted list is the spread of the list.
use Rattle.std.proofs.Common.{◌≡◌, ℕ, ◌-◌, ◌/◌, ◌<◌, List, length, slice_index_or, arith, subst}
use Rattle.std.proofs.lemmas.List.{get_or_read_under}
use Rattle.std.specs.List.Sorted.{IsNonDecreasing, IsPermutation}
use Rattle.bench_objects.specs.Spreads.{IsSpread}

pub spread : (times sorted : List ℕ) (n best median worst : ℕ) → n ≡ length times → n ≡ length sorted → 0 < n → IsPermutation times sorted → IsNonDecreasing sorted
    → best ≡ slice_index_or sorted 0 best → median ≡ slice_index_or sorted (n / 2) median → worst ≡ slice_index_or sorted (n - 1) worst → IsSpread times best median worst
spread times sorted n best median worst long sorted_long some same rising at_best at_median at_worst = record {
  sorted = sorted;
  same = same;
  rising = rising;
  best_is = get_or_read_under sorted 0 n best 0 at_best some sorted_long;
  median_is = subst (λ m. median ≡ slice_index_or sorted (m / 2) 0) long (get_or_read_under sorted (n / 2) n median 0 at_median (omega (arith, some)) sorted_long);
  worst_is = subst (λ m. worst ≡ slice_index_or sorted (m - 1) 0) long (get_or_read_under sorted (n - 1) n worst 0 at_worst (omega (arith, some)) sorted_long);
}
