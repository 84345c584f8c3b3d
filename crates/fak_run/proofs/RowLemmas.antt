-- The rows of a report, as they are added and sorted.
use Rattle.fak_run.proofs.Common.{ProcessRow, IsSortedByName, row_of, ◌≡◌, ◌||◌, Bool, refl, ◌+◌, ◌<◌, List, [], ◌∷◌, length, map, get_or, ap, arith, nat_cmp, IsSortedByKey, list_any, slice_cmp, get_or-map, length-map}

-- if the rows of the program are sorted, so are the rows of plain data
pub IsSortedByName-map : (rows : List ProcessRow) → IsSortedByKey (λ row. row.name.items) (slice_cmp nat_cmp) rows → IsSortedByName (map row_of rows)
IsSortedByName-map [] sorted k d low high = absurd (omega arith)
IsSortedByName-map (r ∷ rs) sorted k d low high =
    let inside : k + 1 < length (r ∷ rs) = omega (arith, length-map (r ∷ rs) row_of) in
    let before : get_or (map row_of (r ∷ rs)) k d ≡ row_of (get_or (r ∷ rs) k r) = get_or-map row_of (r ∷ rs) k r d (omega arith) in
    let after : get_or (map row_of (r ∷ rs)) (k + 1) d ≡ row_of (get_or (r ∷ rs) (k + 1) r) = get_or-map row_of (r ∷ rs) (k + 1) r d inside in
    rw (before, after) (sorted k r low inside)

-- a test of the elements after a map
pub list_any-map : {A B : Type 0} (test : B → Bool) (f : A → B) (xs : List A) → list_any test (map f xs) ≡ list_any (λ x. test (f x)) xs
list_any-map test f [] = refl
list_any-map test f (x ∷ xs) = ap (λ b. test (f x) || b) (list_any-map test f xs)
