-- What the rows of all processes promise.
use Rattle.std.proofs.lemmas.Bool.{cases_lt, and_parts, and_from}
use Rattle.std.proofs.lemmas.List.Sorted.{sum_by-IsPermutation, All-permutation}
use Rattle.fak_run.proofs.Common.{numbers_from, Outcome, Stuck, ◌≡◌, ℕ, zero, suc, ◌+◌, ◌<◌, ◌≤◌, ◌==◌, nat_lt, Bool, true, false, cond, List, [], ◌∷◌, ◌++◌, length, get_or, refl, ap, sym, ◌∙◌, arith, inl, inr, map, ◌&&◌, sum_by, All, AllPairs, IsPermutation, nat_tests, sum_by-append, sum_by-cons, contents, put_of, got_of, close_of, closed_of, ScriptOf, NoteOf, Process, births_of, RowOf, rows_with, sleepers_outcome, is_ended, Ledger, NameAndProgram, named, notes, downs_of, ups_of, shuts_of, no_births_of, no_slots_of, ended_slot, stuck_of, halted_of, FitsRow, Histories, Gathered, begun_names, asleep, lines, lines_of, is_shut, rows_of, children_of, spawned_names, stuck_at, stuck_before, kept_slot, Promised, queue_weighs, closed_after_close, common_steps}
use Rattle.fak_run.proofs.Sums.{sum_by-map, sum_by-flat_map, sum_by-ones, sum_by-zeros, sum_by_same}
use Rattle.fak_run.proofs.Conserved.{conserved, lines_are, length-begun}
use Rattle.fak_run.proofs.Permuting.{permuted, two_weigh}
use Rattle.fak_run.proofs.Names.{same_name, same_name_self, same_name_is, names_differ}
use Rattle.fak_run.proofs.SemaphoreLines.{granted, stuck_below, none_stuck}
use Rattle.fak_run.proofs.Births.{names_alike, births_fit, no_birth_at_bound, spawned_are}

-- ---- names with programs

abbrev same_named : NameAndProgram → NameAndProgram → Bool
same_named a b = same_name a.0 b.0 && (a.1 == b.1)

same_named_is : (a b : NameAndProgram) → same_named a b ≡ true → a ≡ b
same_named_is a b e =
    let parts = and_parts (same_name a.0 b.0) (a.1 == b.1) e in
    let names = same_name_is a.0 b.0 parts.0 in
    let programs : a.1 ≡ b.1 = grind (arith, nat_tests) in
    λ i. (names i, programs i)

same_named_self : (a : NameAndProgram) → same_named a a ≡ true
same_named_self a = and_from (same_name a.0 a.0) (a.1 == a.1) (same_name_self a.0) (grind (arith, nat_tests))

-- ---- slots

kept_is : (w : ℕ → ℕ) (o : Outcome) (slot : ℕ) → w slot ≡ ended_slot w o slot + kept_slot w o slot
kept_is w o slot = grind (arith, common_steps, ended_slot, kept_slot)

kept_one : (w : ℕ → ℕ) (o : Outcome) (slot : ℕ) → is_ended o ≡ false → kept_slot w o slot ≡ w slot
kept_one w o slot e = grind (arith, common_steps, is_ended, kept_slot)

kept_asleep : (w : ℕ → ℕ) (b : Bool) (slot : ℕ) → kept_slot w (sleepers_outcome b) slot ≡ w slot
kept_asleep w b slot = grind (arith, common_steps, kept_slot, sleepers_outcome)

abbrev at_slot : ℕ → ℕ → ℕ
at_slot k j = cond (j == k) 1 0

numbers_le : (k i n : ℕ) → sum_by (at_slot k) (numbers_from i n) ≤ cond (nat_lt k i) 0 1
numbers_le k i zero = omega arith
numbers_le k i (suc n) =
    let parts = sum_by-cons (at_slot k) i (numbers_from (i + 1) n) in
    let rest = numbers_le k (i + 1) n in
    step (sum_by (at_slot k) (numbers_from i (suc n))) (sum_by (at_slot k) (numbers_from (i + 1) n)) parts rest
  where
    step : (all rest : ℕ) → all ≡ at_slot k i + rest → rest ≤ cond (nat_lt k (i + 1)) 0 1 → all ≤ cond (nat_lt k i) 0 1
    step all rest parts le = grind (arith, nat_tests)

-- ---- outcomes of sleepers

module _ {script : ScriptOf} {seats : ℕ} {h : Histories} {l : Ledger} (g : Gathered script seats h l) where
  rows_weigh : (f : RowOf → ℕ) → sum_by f (rows_of script h l)
      ≡ sum_by f l.rows + sum_by (λ (p : Process). f (record { process = p; outcome = sleepers_outcome (is_shut l.rows (asleep h.waits (length script.semaphores))) })) (asleep h.waits (length script.semaphores))
  rows_weigh f = grind (arith, common_steps, asleep, length, sleepers_outcome, is_shut, sum_by-append, rows_with, sum_by, sum_by-map)

  -- a weight of the process only
  all_weigh : (f : Process → ℕ) → sum_by (λ (r : RowOf). f r.process) (rows_of script h l) ≡ sum_by (λ (r : RowOf). f r.process) l.rows + sum_by f (asleep h.waits (length script.semaphores))
  all_weigh f = rows_weigh (λ (r : RowOf). f r.process)

  all_lines : (w : NoteOf → ℕ) → lines w (rows_of script h l) ≡ notes w l
  all_lines w = all_weigh (λ (p : Process). sum_by w p.journal) ∙ lines_are g w

  slots_kept : (w : ℕ → ℕ) → sum_by (λ (r : RowOf). kept_slot w r.outcome r.process.slot) (rows_of script h l) + sum_by w (contents h.free) ≡ sum_by w (numbers_from 0 script.slots)
  slots_kept w =
      let sleepers = asleep h.waits (length script.semaphores) in
      let shut = is_shut l.rows sleepers in
      let all = rows_weigh (λ (r : RowOf). kept_slot w r.outcome r.process.slot) in
      let slept = sum_by_same (λ (p : Process). kept_slot w (sleepers_outcome shut) p.slot) (λ (p : Process). w p.slot) (λ p. kept_asleep w shut p.slot) sleepers in
      let parts = split l.rows in
      let conserves = conserved g (λ (p : Process). w p.slot) in
      let put = g.free (put_of w) in
      let got = g.free (got_of w) in
      let weighs = queue_weighs script.slots w h.free g.free_legal in
      let first = ap (sum_by w) g.first in
      omega (arith, all, slept, parts, conserves, put, got, weighs, first, g.balanced.slots w)
    where
      split : (rows : List RowOf) → sum_by (λ (r : RowOf). w r.process.slot) rows ≡ sum_by (λ (r : RowOf). ended_slot w r.outcome r.process.slot) rows + sum_by (λ (r : RowOf). kept_slot w r.outcome r.process.slot) rows
      split [] = refl
      split (r ∷ rows) = omega (arith, sum_by-cons (λ (r : RowOf). w r.process.slot) r rows, sum_by-cons (λ (r : RowOf). ended_slot w r.outcome r.process.slot) r rows, sum_by-cons (λ (r : RowOf). kept_slot w r.outcome r.process.slot) r rows, kept_is w r.outcome r.process.slot, split rows)

  -- ---- halts

  -- a processor halts a process only if there was a shutdown line
  halts_after_shut : 0 < sum_by (λ (r : RowOf). halted_of r.outcome) l.rows → 0 < notes shuts_of l
  halts_after_shut some = grind (arith, common_steps, closed_of, close_of, closed_after_close)

  shut_lines : lines shuts_of l.rows + lines_of shuts_of (asleep h.waits (length script.semaphores)) ≡ notes shuts_of l
  shut_lines = lines_are g shuts_of

  none_halted : is_shut l.rows (asleep h.waits (length script.semaphores)) ≡ false → sum_by (λ (r : RowOf). halted_of r.outcome) (rows_of script h l) ≡ 0
  none_halted still_open =
      let sleepers = asleep h.waits (length script.semaphores) in
      let all = rows_weigh (λ (r : RowOf). halted_of r.outcome) in
      let each : halted_of (sleepers_outcome (is_shut l.rows sleepers)) ≡ 0 = ap (λ b. halted_of (sleepers_outcome b)) still_open in
      let slept = sum_by_same (λ (p : Process). halted_of (sleepers_outcome (is_shut l.rows sleepers))) (λ (p : Process). 0) (λ p. each) sleepers in
      let zeros = sum_by-zeros sleepers in
      let no_line : lines shuts_of l.rows + lines_of shuts_of sleepers ≡ 0 = grind (arith, nat_tests) in
      let here = shut_lines in
      elim (cases_lt 0 (sum_by (λ (r : RowOf). halted_of r.outcome) l.rows)) [
        | inl some ↦ absurd (omega (arith, halts_after_shut some, here, no_line))
        | inr none ↦ omega (arith, all, slept, zeros, none)
      ]

  none_stuck_when_shut : is_shut l.rows (asleep h.waits (length script.semaphores)) ≡ true → sum_by (λ (r : RowOf). stuck_of r.outcome) (rows_of script h l) ≡ 0
  none_stuck_when_shut shut =
      let sleepers = asleep h.waits (length script.semaphores) in
      let all = rows_weigh (λ (r : RowOf). stuck_of r.outcome) in
      let each : stuck_of (sleepers_outcome (is_shut l.rows sleepers)) ≡ 0 = ap (λ b. stuck_of (sleepers_outcome b)) shut in
      let slept = sum_by_same (λ (p : Process). stuck_of (sleepers_outcome (is_shut l.rows sleepers))) (λ (p : Process). 0) (λ p. each) sleepers in
      let zeros = sum_by-zeros sleepers in
      omega (arith, all, slept, zeros, g.balanced.shutdown.no_stuck)

  -- ---- semaphores

  stuck_rows : is_shut l.rows (asleep h.waits (length script.semaphores)) ≡ false → (s : ℕ) → s < length script.semaphores → stuck_before script s (rows_of script h l) ≡ length (contents (h.waits s))
  stuck_rows still_open s below =
      let n = length script.semaphores in
      let sleepers = asleep h.waits n in
      let all = rows_weigh (λ (r : RowOf). stuck_at script s r.outcome r.process) in
      let slept = ap (λ b. sum_by (λ (p : Process). stuck_at script s (sleepers_outcome b) p) sleepers) still_open in
      let there = stuck_below g s n (omega arith) below in
      let test : nat_lt s n ≡ true = grind (arith, nat_tests) in
      let there' : sum_by (stuck_at script s Stuck) sleepers ≡ length (contents (h.waits s)) = rw test at there in
      let none = others l.rows g.balanced.shutdown.no_stuck in
      omega (arith, all, slept, there', none)
    where
      others : (rows : List RowOf) → sum_by (λ (r : RowOf). stuck_of r.outcome) rows ≡ 0 → sum_by (λ (r : RowOf). stuck_at script s r.outcome r.process) rows ≡ 0
      others [] e = refl
      others (r ∷ rows) e =
          let parts = sum_by-cons (λ (r : RowOf). stuck_of r.outcome) r rows in
          let here = none_stuck script s r.outcome r.process (omega (arith, parts, e)) in
          omega (arith, here, others rows (omega (arith, parts, e)), sum_by-cons (λ (r : RowOf). stuck_at script s r.outcome r.process) r rows)

  -- ---- the report

  module _ (rows : List RowOf) (fit : All (FitsRow script) (rows_of script h l)) (sorted : IsPermutation (rows_of script h l) rows) where
    same : (f : RowOf → ℕ) → sum_by f rows ≡ sum_by f (rows_of script h l)
    same f = sum_by-IsPermutation f (rows_of script h l) rows sorted

    fits_all : All (FitsRow script) rows
    fits_all = All-permutation (FitsRow script) (rows_of script h l) rows sorted fit

    alike : (w : NameAndProgram → ℕ) → sum_by (λ (r : RowOf). w (named r.process)) rows ≡ sum_by w (begun_names 0 script.start) + sum_by (λ (r : RowOf). sum_by w (children_of script r.process)) rows
    alike w = omega (arith, same (λ (r : RowOf). w (named r.process)), same (λ (r : RowOf). sum_by w (children_of script r.process)), all_weigh (λ (p : Process). w (named p)), all_weigh (λ (p : Process). sum_by w (children_of script p)), names_alike g w)

    pub lines_all : (w : NoteOf → ℕ) → lines w rows ≡ notes w l
    lines_all w = same (λ (r : RowOf). sum_by w r.process.journal) ∙ all_lines w

    spawned_count : length (spawned_names script rows) ≡ notes births_of l
    spawned_count =
        let ones = sum_by-ones (spawned_names script rows) in
        let flat = sum_by-flat_map (λ (c : NameAndProgram). 1) (λ (r : RowOf). children_of script r.process) rows in
        let all = alike (λ (c : NameAndProgram). 1) in
        let every = same (λ (r : RowOf). 1) in
        let rows_are = all_weigh (λ (p : Process). 1) in
        let conserves = conserved g (λ (p : Process). 1) in
        let begun = sym (sum_by-map (λ (c : NameAndProgram). 1) named l.begun) ∙ ap (sum_by (λ (c : NameAndProgram). 1)) g.begun in
        omega (arith, ones, flat, all, every, rows_are, conserves, begun, spawned_are g)

    row_count : length rows ≡ length script.start + length (spawned_names script rows)
    row_count =
        let ones = sum_by-ones rows in
        let spawned = sum_by-ones (spawned_names script rows) in
        let flat = sum_by-flat_map (λ (c : NameAndProgram). 1) (λ (r : RowOf). children_of script r.process) rows in
        let begun = sum_by-ones (begun_names 0 script.start) in
        omega (arith, ones, spawned, flat, begun, length-begun 0 script.start, alike (λ (c : NameAndProgram). 1))

    slots_differ : AllPairs (λ (a b : RowOf). is_ended a.outcome ≡ false → is_ended b.outcome ≡ false → a.process.slot ≡ b.process.slot → ⊥) rows
    slots_differ i j d lt below a_lives b_lives one_slot =
        let a = get_or rows i d in
        let b = get_or rows j d in
        let k = b.process.slot in
        let w : RowOf → ℕ = λ (r : RowOf). kept_slot (at_slot k) r.outcome r.process.slot in
        let two = two_weigh (λ (r : RowOf). kept_slot (at_slot k) r.outcome r.process.slot) rows i j d lt below in
        let all = same (λ (r : RowOf). kept_slot (at_slot k) r.outcome r.process.slot) in
        let kept = slots_kept (at_slot k) in
        let most = numbers_le k 0 script.slots in
        let most' : sum_by (at_slot k) (numbers_from 0 script.slots) ≤ 1 = grind (arith, nat_tests) in
        let own : at_slot k k ≡ 1 = grind (arith, nat_tests) in
        let b_is = kept_one (at_slot k) b.outcome b.process.slot b_lives ∙ own in
        let a_is = kept_one (at_slot k) a.outcome a.process.slot a_lives ∙ (ap (at_slot k) one_slot ∙ own) in
        omega (arith, two, all, kept, most', a_is, b_is)

    pub promised : Promised script rows
    promised = record {
      names = permuted same_named same_named_is same_named_self (begun_names 0 script.start ++ spawned_names script rows) (map (λ (r : RowOf). named r.process) rows) (λ w.
          omega (arith, sum_by-append w (begun_names 0 script.start) (spawned_names script rows), sum_by-flat_map w (λ (r : RowOf). children_of script r.process) rows, sum_by-map w (λ (r : RowOf). named r.process) rows, alike w));
      once = names_differ script rows fits_all alike;
      births = omega (arith, spawned_count, lines_all births_of);
      count = omega (arith, row_count);
      bound = omega (arith, spawned_count, births_fit g);
      no_birth = λ some. omega (arith, lines_all births_of, lines_all no_slots_of, no_birth_at_bound g (omega (arith, some, lines_all no_births_of)));
      fits = fits_all;
      slots = slots_differ;
      halted = λ some. elim (cases_lt 0 (lines shuts_of rows)) [
        | inl more ↦ more
        | inr none ↦ (let e = lines_all shuts_of in let here = shut_lines in
            let still_open : is_shut l.rows (asleep h.waits (length script.semaphores)) ≡ false = grind (arith, nat_tests) in
            absurd (omega (arith, some, same (λ (r : RowOf). halted_of r.outcome), none_halted still_open)))
      ];
      none_stuck = λ some.
          let e = lines_all shuts_of in let here = shut_lines in
          let shut : is_shut l.rows (asleep h.waits (length script.semaphores)) ≡ true = grind (arith, nat_tests) in
          omega (arith, same (λ (r : RowOf). stuck_of r.outcome), none_stuck_when_shut shut);
      granted = λ none s below.
          let e = lines_all shuts_of in let here = shut_lines in
          let still_open : is_shut l.rows (asleep h.waits (length script.semaphores)) ≡ false = grind (arith, nat_tests) in
          omega (arith, lines_all (downs_of s), lines_all (ups_of s), same (λ (r : RowOf). stuck_at script s r.outcome r.process), stuck_rows still_open s below, granted g s below);
    }
