-- Reports of small scripts, and what they contradict.
use Rattle.fak_run.proofs.Common.{◌≡◌, ℕ, ◌==◌, Bool, true, false, cond, List, [], ◌∷◌, refl, ap, sym, ◌∙◌, subst, arith, true≢false, sum_by-cons, All, AllPairs, All-nil, All-cons, NoteOf, RowOf, IsSortedByName, is_ended, common_steps}
use Rattle.fak_run.specs.Reported.{AreAsOften}
use Rattle.fak_run.proofs.SameRows.{same_note, same_note_is, same_note_self, same_number_self}

-- equal numbers that a test finds different
pub clash : (a b : ℕ) → a ≡ b → (a == b) ≡ false → ⊥
clash a b e differ = true≢false (sym (subst (λ (x : ℕ). (a == x) ≡ true) e (same_number_self a)) ∙ differ)

-- ---- lists of one and of two

pub all_one : {X : Type 0} (P : X → Type 0) (a : X) → P a → All P (a ∷ [])
all_one P a x = All-cons P a [] x (All-nil P)

pub one_pairs : {X : Type 0} (R : X → X → Type 0) (a : X) → AllPairs R (a ∷ [])
one_pairs R a i j d lt below = absurd (omega (arith, lt, below))

pub sorted_one : (a : RowOf) → IsSortedByName (a ∷ [])
sorted_one a k d low high = absurd (omega (arith, high))

-- names that differ, and slots of rows that haven't ended
abbrev pub OtherName : RowOf → RowOf → Type 0
OtherName a b = a.process.name ≡ b.process.name → ⊥

abbrev pub OtherSlot : RowOf → RowOf → Type 0
OtherSlot a b = is_ended a.outcome ≡ false → is_ended b.outcome ≡ false → a.process.slot ≡ b.process.slot → ⊥

-- ---- one line

-- 1 for each line except this one
abbrev other : NoteOf → NoteOf → ℕ
other x y = cond (same_note y x) 0 1

only_by : (x y : NoteOf) (b : Bool) → same_note y x ≡ b → other x y ≡ other x x → y ≡ x
only_by x y b is e = grind (arith, common_steps, same_note, other, same_note_is, same_note_self, clash)

-- a list with exactly the lines of a list of one line is that list
pub only_line : (x : NoteOf) (list : List NoteOf) → AreAsOften list (x ∷ []) → list ≡ x ∷ []
only_line x [] often = absurd (clash 0 1 (often (λ n. 1)) refl)
only_line x (y ∷ []) often =
    let here : other x y ≡ other x x = omega (arith, often (other x), sum_by-cons (other x) y [], sum_by-cons (other x) x []) in
    ap (λ (z : NoteOf). z ∷ []) (only_by x y (same_note y x) refl here)
only_line x (y ∷ z ∷ list) often =
    let w : NoteOf → ℕ = λ n. 1 in
    absurd (omega (arith, often w, sum_by-cons w y (z ∷ list), sum_by-cons w z list, sum_by-cons w x []))
