-- Notes and rows without their said texts.
use Rattle.std.specs.List.{list_any, sum_by}
use Rattle.fak_run.proofs.Common.{ProcessRow, shuts_of, row_of, ◌≡◌, ℕ, zero, suc, ◌+◌, ◌<◌, List, [], ◌∷◌, ◌++◌, length, map, take, get_or, slice_get, Some, refl, ap, ◌∙◌, arith, get_or-map, length-map, sum_by-cons, ScriptOf, StepOf, NoteOf, said, Allows, RowOf, IsSortedByName, is_stuck, told, told_notes, told_row, told_rows, common_steps}

-- ---- notes

pub length-told : (steps : List StepOf) (notes : List NoteOf) → length (told_notes steps notes) ≡ length notes
length-told steps [] = refl
length-told [] (n ∷ ns) = ap suc (length-told [] ns)
length-told (s ∷ ss) (n ∷ ns) = ap suc (length-told ss ns)

-- a note that a step allows already has the step's text
pub told-allowed : (files children : ℕ) (step : StepOf) (note : NoteOf) → Allows files children step note → told step note ≡ note
told-allowed files children step note ok = grind (arith, common_steps, told, said)

-- one more note
pub told-push : (steps : List StepOf) (notes : List NoteOf) (step : StepOf) (note : NoteOf) → slice_get steps (length notes) ≡ Some step → told_notes steps (notes ++ note ∷ []) ≡ told_notes steps notes ++ told step note ∷ []
told-push [] [] step note at = absurd (cc)
told-push (s ∷ ss) [] step note at = grind (arith, common_steps, told)
told-push [] (m ∷ ms) step note at = absurd (cc)
told-push (s ∷ ss) (m ∷ ms) step note at = ap (λ (l : List NoteOf). told s m ∷ l) (told-push ss ms step note at)

-- the first notes
pub told-take : (n : ℕ) (steps : List StepOf) (notes : List NoteOf) → told_notes steps (take n notes) ≡ take n (told_notes steps notes)
told-take zero steps notes = refl
told-take (suc n) steps [] = refl
told-take (suc n) [] (m ∷ ms) = ap (λ (l : List NoteOf). m ∷ l) (told-take n [] ms)
told-take (suc n) (s ∷ ss) (m ∷ ms) = ap (λ (l : List NoteOf). told s m ∷ l) (told-take n ss ms)

shuts-told : (step : StepOf) (note : NoteOf) → shuts_of (told step note) ≡ shuts_of note
shuts-told step note = grind (arith, common_steps, shuts_of, told)

-- a said text is no shutdown
pub shuts-told_notes : (steps : List StepOf) (notes : List NoteOf) → sum_by shuts_of (told_notes steps notes) ≡ sum_by shuts_of notes
shuts-told_notes steps [] = refl
shuts-told_notes [] (n ∷ ns) = omega (arith, sum_by-cons shuts_of n (told_notes [] ns), sum_by-cons shuts_of n ns, shuts-told_notes [] ns)
shuts-told_notes (s ∷ ss) (n ∷ ns) = omega (arith, sum_by-cons shuts_of (told s n) (told_notes ss ns), sum_by-cons shuts_of n ns, shuts-told s n, shuts-told_notes ss ns)

-- ---- rows

pub length-told_rows : (script : ScriptOf) (rows : List ProcessRow) → length (told_rows script (map row_of rows)) ≡ length rows
length-told_rows script rows = length-map (map row_of rows) (told_row script) ∙ length-map rows row_of

-- texts change no names
pub IsSortedByName-told : (script : ScriptOf) (rows : List RowOf) → IsSortedByName rows → IsSortedByName (told_rows script rows)
IsSortedByName-told script [] sorted k d low high = absurd (omega arith)
IsSortedByName-told script (r ∷ rs) sorted k d low high =
    let inside : k + 1 < length (r ∷ rs) = omega (arith, length-map (r ∷ rs) (told_row script)) in
    let before : get_or (map (told_row script) (r ∷ rs)) k d ≡ told_row script (get_or (r ∷ rs) k r) = get_or-map (told_row script) (r ∷ rs) k r d (omega arith) in
    let after : get_or (map (told_row script) (r ∷ rs)) (k + 1) d ≡ told_row script (get_or (r ∷ rs) (k + 1) r) = get_or-map (told_row script) (r ∷ rs) (k + 1) r d inside in
    rw (before, after) (sorted k r low inside)

-- and they do not change whether a process is stuck
pub any_stuck-told : (script : ScriptOf) (rows : List RowOf) → list_any (λ row. is_stuck row.outcome) (told_rows script rows) ≡ list_any (λ row. is_stuck row.outcome) rows
any_stuck-told script [] = refl
any_stuck-told script (r ∷ rs) = rw (any_stuck-told script rs) refl
