-- The elements of the first lists, by place.
use Rattle.fak_run.proofs.Common.{◌≡◌, ℕ, zero, suc, ◌+◌, ◌<◌, List, [], ◌∷◌, length, map, refl, ap, arith, slice_get, slice_index_or, Option, Some, Process, new_process, begun_from, numbers_from, FileEntry, common_steps}
use Rattle.std.specs.Prelude.{replicate}

pub begun_at : (i k n : ℕ) (programs : List ℕ) (program : ℕ) → n ≡ i + k → slice_get programs k ≡ Some program → slice_get (begun_from i programs) k ≡ Some (new_process (n ∷ []) program n)
begun_at i k n [] program at is = absurd (cc (is))
begun_at i zero n (p ∷ programs) program at is = grind (arith, common_steps, new_process)
begun_at i (suc k) n (p ∷ programs) program at is = begun_at (i + 1) k n programs program (omega (arith, at)) is

pub length-begun : (i : ℕ) (programs : List ℕ) → length (begun_from i programs) ≡ length programs
length-begun i [] = refl
length-begun i (p ∷ programs) = ap suc (length-begun (i + 1) programs)

pub number_at : (i n k m : ℕ) → m ≡ i + k → k < n → slice_get (numbers_from i n) k ≡ Some m
number_at i zero k m at below = absurd (omega (arith, below))
number_at i (suc n) zero m at below = ap (λ (x : ℕ). let o : Option ℕ = Some x in o) (omega (arith, at))
number_at i (suc n) (suc k) m at below = number_at (i + 1) n k m (omega (arith, at)) (omega (arith, below))

pub length-numbers : (i n : ℕ) → length (numbers_from i n) ≡ n
length-numbers i zero = refl
length-numbers i (suc n) = ap suc (length-numbers (i + 1) n)

pub none_asleep : (values : List ℕ) (n : ℕ) → slice_index_or (map (λ _. let none : List Process = [] in none) values) n [] ≡ []
none_asleep [] n = refl
none_asleep (v ∷ values) zero = refl
none_asleep (v ∷ values) (suc n) = none_asleep values n

pub entry_at : (entry : FileEntry) (n i : ℕ) → i < n → slice_get (replicate n entry) i ≡ Some entry
entry_at entry zero i below = absurd (omega (arith, below))
entry_at entry (suc n) zero below = refl
entry_at entry (suc n) (suc i) below = entry_at entry n i (omega (arith, below))
