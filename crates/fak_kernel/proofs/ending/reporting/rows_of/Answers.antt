use Rattle.std.proofs.lemmas.List.Sorted.{IsPermutation-map}
use Rattle.fak_kernel.proofs.Common.{Outcome, Ended, Halted, ProcessRow, rows_left, shut_lines, RowOf, rows_with, sleepers_outcome, row_of, ◌≡◌, ◌∙◌, ◌++◌, [], List, map, ap, subst, nat_lt, IsPermutation, told_row, told_rows, IsSortedByName-told}
use Rattle.fak_kernel.proofs.ending.reporting.rows_of.Goals as goal

pub returns-clause-rows : goal.returns-clause-rows
returns-clause-rows g c =
    let script = g.K.Run.script in
    let ended = c.args.ended.items in
    let halted = c.args.halted.items in
    let asleep = c.args.asleep.items in
    let start : told_rows script (map row_of c.new-rows.result.items) ≡ [] = ap (λ (l : List ProcessRow). told_rows script (map row_of l)) c.new-rows.ensures.items in
    let first = c.in_ok-add_rows.ensures.added ∙ ap (λ (l : List RowOf). l ++ rows_with Ended ended) start in
    let second = c.in_ok-add_rows-2.ensures.added ∙ ap (λ (l : List RowOf). l ++ rows_with Halted halted) first in
    let third = c.in_ok-add_rows-3.ensures.added ∙ ap (λ (l : List RowOf). l ++ rows_with c.outcome_of_sleepers-outcome.result asleep) second in
    let outcome : c.outcome_of_sleepers-outcome.result ≡ sleepers_outcome (nat_lt 0 (shut_lines ended halted asleep)) =
    c.outcome_of_sleepers-outcome.ensures ∙ (λ i. sleepers_outcome (nat_lt 0 (shut_lines (c.as_slice.ensures.value i) (c.as_slice-2.ensures.value i) (c.as_slice-3.ensures.value i)))) in
    let whole : told_rows script (map row_of c.add_rows-3.new.rows.items) ≡ rows_left ended halted asleep = third ∙ ap (λ (o : Outcome). rows_with Ended ended ++ rows_with Halted halted ++ rows_with o asleep) outcome in
    subst (λ (l : List RowOf). IsPermutation l (told_rows script (map row_of c.sort_rows.new.rows.items))) whole (IsPermutation-map (told_row script) _ _ c.sort_rows.ensures.permutation)

pub returns-clause-sorted : goal.returns-clause-sorted
returns-clause-sorted g c = IsSortedByName-told g.K.Run.script (map row_of c.sort_rows.new.rows.items) c.in_ok-sort_rows.ensures.sorted
