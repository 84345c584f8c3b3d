-- The names in the list scheduler's report: each occurs once.
use Rattle.fak_run.proofs.Common.{Turn, Lists, State, turn_over, child_of, begun_from, opening, Outcome, named, begun_names, ◌≡◌, ℕ, suc, ◌+◌, ◌≤◌, ◌==◌, nat_lt, Bool, cond, List, [], ◌∷◌, ◌++◌, refl, ap, sym, ◌∙◌, subst, arith, Option, map, ◌&&◌, sum_by, flat_map, AllPairs, nat_tests, sum_by-append, sum_by-cons, sum_by-IsPermutation, snoc_ind, ScriptOf, spawned, Process, new_process, after_note, child_count, child_count-append, RowOf, ReportOf, rows_with, sleepers_outcome, rows_at, IsReportOf, ListSchedulerReports, common_steps}
use Rattle.fak_run.proofs.Sums.{sum_by-map, sum_by-flat_map, sum_by_less, sum_by-zeros}
use Rattle.fak_run.proofs.Ends.{ends_alike}
use Rattle.fak_run.proofs.Names.{same_name, same_end, not_nameless, is_named, is_first, first_le, begun_le, first_is_short, differ}
use Rattle.fak_run.proofs.SameRows.{same_row, same_row_self, same_row_is}
use Rattle.fak_run.proofs.SortedAlike.{sorted_alike}
use Rattle.fak_run.proofs.SchedulerWeights.{turn_weighs, all_weigh, Pays, Paid, paid}

-- 1 for a process of this name, and 1 for one of this name that had a child of this number
abbrev has_name : List ℕ → Process → ℕ
has_name x p = is_named x (named p)

abbrev had_child : List ℕ → ℕ → Process → ℕ
had_child x j p = cond (same_name p.name x) (cond (nat_lt j (child_count p.journal)) 1 0) 0

-- ---- a child's number is below its parent's count

had_more : (his : Bool) (j n : ℕ) → cond (his && (n == j)) 1 0 + cond his (cond (nat_lt j n) 1 0) 0 ≤ cond his (cond (nat_lt j (n + 1)) 1 0) 0
had_more his j n = grind (arith, common_steps, nat_lt, nat_tests)

had_once : (his : Bool) (j n : ℕ) → cond his (cond (nat_lt j n) 1 0) 0 ≤ cond his 1 0
had_once his j n = grind (arith, common_steps, nat_lt, nat_tests)

children_pay : (x : List ℕ) (j : ℕ) → Pays (has_name (x ++ j ∷ [])) (had_child x j)
children_pay x j = grind (arith, common_steps, child_count, child_count-append, cond, same_name, nat_lt, spawned, child_of, same_end, after_note, had_more)

nameless_pay : Pays (has_name []) (λ p. 0)
nameless_pay = grind (arith, common_steps, child_of, cond, not_nameless, child_count)

-- ---- sums

turn_less : (f g : Process → ℕ) → ((p : Process) → f p ≤ g p) → (running : Option Turn) → turn_weighs f running ≤ turn_weighs g running
turn_less f g less v = grind (arith, common_steps, turn_weighs)

all_less : (f g : Process → ℕ) → ((p : Process) → f p ≤ g p) → (s : State) → all_weigh f s ≤ all_weigh g s
all_less f g less s = omega (arith, turn_less f g less s.running, sum_by_less f g less s.lists.ready, sum_by_less (sum_by f) (sum_by g) (λ ps. sum_by_less f g less ps) s.lists.sleepers, sum_by_less f g less s.lists.ended, sum_by_less f g less s.lists.halted)

-- ---- the opening

begun_named : (x : List ℕ) (i : ℕ) (programs : List ℕ) → sum_by (has_name x) (begun_from i programs) ≡ sum_by (is_named x) (begun_names i programs)
begun_named x i [] = refl
begun_named x i (program ∷ programs) =
    let begun = new_process (i ∷ []) program i in
    let here : has_name x begun ≡ is_named x (i ∷ [], program) = refl in
    let next : i + 1 ≡ suc i = omega arith in
    let rest : sum_by (has_name x) (begun_from (i + 1) programs) ≡ sum_by (is_named x) (begun_names (suc i) programs) = begun_named x (i + 1) programs ∙ ap (λ k. sum_by (is_named x) (begun_names k programs)) next in
    omega (arith, here, rest, sum_by-cons (has_name x) begun (begun_from (i + 1) programs), sum_by-cons (is_named x) (i ∷ [], program) (begun_names (suc i) programs))

nobody_sleeps : (f : Process → ℕ) (semaphores : List ℕ) → sum_by (sum_by f) (map (λ _. []) semaphores) ≡ 0
nobody_sleeps f [] = refl
nobody_sleeps f (n ∷ semaphores) = omega (arith, sum_by-cons (sum_by f) [] (map (λ _. []) semaphores), nobody_sleeps f semaphores)

opening_has : (script : ScriptOf) (x : List ℕ) → all_weigh (has_name x) (opening script) ≤ is_first 0 x
opening_has script x = omega (arith, begun_named x 0 script.start, begun_le x 0 script.start, nobody_sleeps (has_name x) script.semaphores)

-- ---- each name occurs once

nothing : (s : State) → all_weigh (λ p. 0) s ≡ 0
nothing s = omega (arith, of_turn s.running, sum_by-zeros s.lists.ready, of_lists s.lists.sleepers, sum_by-zeros s.lists.ended, sum_by-zeros s.lists.halted)
  where
    of_turn : (running : Option Turn) → turn_weighs (λ p. 0) running ≡ 0
    of_turn running = grind (arith, common_steps, turn_weighs)

    of_lists : (pss : List (List Process)) → sum_by (sum_by (λ (p : Process). 0)) pss ≡ 0
    of_lists [] = refl
    of_lists (ps ∷ pss) = omega (arith, sum_by-cons (sum_by (λ (p : Process). 0)) ps pss, sum_by-zeros ps, of_lists pss)

-- all processes, with those that are lost
module _ (script : ScriptOf) (t : State) (way : Paid (opening script) t) where
  nameless : all_weigh (has_name []) t + sum_by (has_name []) way.lost ≡ 0
  nameless = omega (arith, way.balance (has_name []) (λ p. 0) nameless_pay, opening_has script [], nothing t, sum_by-zeros way.lost)

  -- the name of a child occurs at most as often as it is begun, and then the name of its parent occurs
  parents : (x : List ℕ) (j : ℕ) → all_weigh (has_name (x ++ j ∷ [])) t + sum_by (has_name (x ++ j ∷ [])) way.lost ≤ is_first 0 (x ++ j ∷ []) + (all_weigh (has_name x) t + sum_by (has_name x) way.lost)
  parents x j =
      let each : (p : Process) → had_child x j p ≤ has_name x p = λ p. had_once (same_name p.name x) j (child_count p.journal) in
      omega (arith, way.balance (has_name (x ++ j ∷ [])) (had_child x j) (children_pay x j), opening_has script (x ++ j ∷ []), all_less (had_child x j) (has_name x) each t, sum_by_less (had_child x j) (has_name x) each way.lost)

  once_at_most : (x : List ℕ) → all_weigh (has_name x) t + sum_by (has_name x) way.lost ≤ 1
  once_at_most = snoc_ind (λ (x : List ℕ). all_weigh (has_name x) t + sum_by (has_name x) way.lost ≤ 1) (omega (arith, nameless)) (λ x j before. longer x j before)
    where
      longer : (x : List ℕ) (j : ℕ) → all_weigh (has_name x) t + sum_by (has_name x) way.lost ≤ 1 → all_weigh (has_name (x ++ j ∷ [])) t + sum_by (has_name (x ++ j ∷ [])) way.lost ≤ 1
      longer x j before = grind (arith, common_steps, all_weigh, has_name, sum_by, parents, nameless, first_le, first_is_short)

-- ---- the report

left_so : (f : Process → ℕ) (outcome : Outcome) (ps : List Process) → sum_by (λ (r : RowOf). f r.process) (rows_with outcome ps) ≡ sum_by f ps
left_so f outcome ps = sum_by-map (λ (r : RowOf). f r.process) (λ (p : Process). let r : RowOf = record { process = p; outcome = outcome } in r) ps

rows_weigh : (f : Process → ℕ) (s : Lists) → sum_by (λ (r : RowOf). f r.process) (rows_at s) ≡ sum_by f s.ended + (sum_by f s.halted + sum_by (sum_by f) s.sleepers)
rows_weigh f s = grind (arith, common_steps, flat_map, rows_with, sleepers_outcome, sum_by, rows_at, sum_by-append, left_so, sum_by-flat_map)

rows_once : (script : ScriptOf) (report : ReportOf) → ListSchedulerReports script report → (x : List ℕ) → sum_by (λ (r : RowOf). is_named x (named r.process)) report.rows ≤ 1
rows_once script report reports x =
    let s = reports.0 in
    let way : Paid (opening script) (turn_over s) = subst (Paid (opening script)) (sym reports.1.reached) (paid reports.1.count script (opening script)) in
    omega (arith, sum_by-IsPermutation (λ (r : RowOf). is_named x (named r.process)) (rows_at s) report.rows reports.2.rows, rows_weigh (has_name x) s, once_at_most script (turn_over s) way x)

pub reported_once : (script : ScriptOf) (report : ReportOf) → ListSchedulerReports script report → AllPairs (λ (a b : RowOf). a.process.name ≡ b.process.name → ⊥) report.rows
reported_once script report reports = differ report.rows (rows_once script report reports)

pub reports_alike : (script : ScriptOf) (a b : ReportOf) → ListSchedulerReports script a → ListSchedulerReports script b → a ≡ b
reports_alike script a b one other =
    let is : IsReportOf script other.0 a = subst (λ (s : Lists). IsReportOf script s a) (ends_alike script one.0 other.0 one.1 other.1) one.2 in
    let also = other.2 in
    let permuted : (f : RowOf → ℕ) → sum_by f a.rows ≡ sum_by f b.rows = λ f. sum_by-IsPermutation f (rows_at other.0) a.rows is.rows ∙ sym (sum_by-IsPermutation f (rows_at other.0) b.rows also.rows) in
    let version = is.version ∙ sym also.version in
    let rows = sorted_alike (λ (r : RowOf). r.process.name) same_row same_row_is same_row_self a.rows b.rows permuted is.sorted also.sorted (rows_once script b other) in
    let births = is.births ∙ sym also.births in
    let bound = is.bound ∙ sym also.bound in
    let entries = is.entries ∙ sym also.entries in
    λ i. record { version = version i; rows = rows i; births = births i; bound = bound i; entries = entries i }
