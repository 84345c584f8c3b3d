use Rattle.std.proofs.Common.{rules, ◌≡◌, length, arith}
use Rattle.std.proofs.lemmas.List.Sorted.{IsNonDecreasingBy-from_sort}
use Rattle.bench_objects.proofs.Tails.{tail}
use Rattle.bench_objects.proofs.tail.tail_of.Goals as goal

pub returns : goal.returns
returns c =
    let times = c.args.times in
    let sorted = c.sort.new.self in
    let n = c.len-count.result in
    let long : n ≡ length times.items = omega (arith, c.len-count.ensures, times.ok) in
    let sorted_long : n ≡ length sorted.items = omega (arith, c.len-count.ensures, c.in_ok-sort.ensures.len, sorted.ok) in
    tail times.items sorted.items n _ _ _ _ long sorted_long (search rules) c.in_ok-sort.ensures.permutation
    (IsNonDecreasingBy-from_sort (λ x. x) sorted.items c.in_ok-sort.ensures.sorted) c.index.ensures c.index-2.ensures c.index-3.ensures c.index-4.ensures
