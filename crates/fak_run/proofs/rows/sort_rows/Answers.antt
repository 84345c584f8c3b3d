use Rattle.std.specs.Cmp.Lexicographic.{slice_cmp}
use Rattle.fak_run.proofs.Common.{row_of, ProcessRow, rules, is_lt, nat_cmp, IsPermutation-map, answers_always, ranks_by, nat_list_cmp_total}
use Rattle.fak_run.proofs.RowLemmas.{IsSortedByName-map}
use Rattle.fak_run.proofs.rows.sort_rows.Goals as goal

pub returns-clause-permutation : goal.returns-clause-permutation
returns-clause-permutation c = IsPermutation-map row_of _ _ c.sort_by.ensures.permutation

pub returns-clause-sorted : goal.returns-clause-sorted
returns-clause-sorted c =
    IsSortedByName-map _ (c.in_ok-sort_by.ensures.sorted (λ (x : ProcessRow) (y : ProcessRow). is_lt (slice_cmp nat_cmp x.name.items y.name.items)) (ranks_by nat_list_cmp_total (λ (r : ProcessRow). r.name.items)) (answers_always _ _ _ (λ f a r g h. search rules)))
