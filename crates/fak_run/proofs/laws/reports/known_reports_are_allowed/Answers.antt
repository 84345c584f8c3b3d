use Rattle.fak_run.proofs.Common.{◌≡◌, ℕ, zero, suc, ◌+◌, ◌<◌, min, List, [], ◌∷◌, Some, refl, arith, slice_index, IsPermutation-refl, FitsRow, RowOf, Ended, Stuck, Halted, downed, shut_down, spawned, downs_of, ups_of, lines, opened, stuck_before, used, left_row, opener, pair_at, parent_row}
use Rattle.fak_run.proofs.ReportExamples.{all_one, one_pairs, sorted_one, OtherName, OtherSlot}
use Rattle.fak_run.proofs.laws.reports.known_reports_are_allowed.Goals as goal

abbrev passing : RowOf
passing = left_row (0 ∷ []) 0 0 (downed 0 ∷ []) Ended

abbrev sleeping : RowOf
sleeping = left_row (1 ∷ []) 0 0 [] Stuck

abbrev passed_rows : List RowOf
passed_rows = passing ∷ sleeping ∷ []

abbrev spawning : RowOf
spawning = parent_row (spawned 0 ∷ [])

abbrev shutting : RowOf
shutting = left_row (0 ∷ []) 0 0 (shut_down ∷ []) Halted

pair_granted : (s : ℕ) → s < 2 → lines (downs_of s) passed_rows ≡ min (lines (downs_of s) passed_rows + stuck_before (pair_at 1) s passed_rows) (slice_index (pair_at 1).semaphores s + lines (ups_of s) passed_rows)
pair_granted zero low = refl
pair_granted (suc zero) low = refl
pair_granted (suc (suc s)) low = absurd (omega (arith, low))

pub returns-clause-opened : goal.returns-clause-opened
returns-clause-opened c = record {
  version = refl;
  bound = refl;
  sorted = sorted_one (parent_row (opened 7 (Some 0) ∷ []));
  births = refl;
  rows = record {
    names = IsPermutation-refl _;
    once = one_pairs OtherName (parent_row (opened 7 (Some 0) ∷ []));
    births = refl;
    count = refl;
    bound = omega arith;
    no_birth = λ (some : 0 < 0). absurd (omega (arith, some));
    fits = all_one (FitsRow opener) (parent_row (opened 7 (Some 0) ∷ [])) (record { process = record { program = omega arith; slot = omega arith; position = refl; fits = ((refl, omega arith), tt) }; stands = refl });
    slots = one_pairs OtherSlot (parent_row (opened 7 (Some 0) ∷ []));
    halted = λ (some : 0 < 0). absurd (omega (arith, some));
    none_stuck = λ (some : 0 < 0). absurd (omega (arith, some));
    granted = λ _ s (below : s < 0). absurd (omega (arith, below));
  };
  files = record { list = opened 7 (Some 0) ∷ []; as_often = λ w. refl; replays = (used 7 1 ∷ [], refl, refl) };
}
