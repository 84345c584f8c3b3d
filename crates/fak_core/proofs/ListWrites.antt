-- Lists of which one element is written.
use Rattle.fak_core.proofs.Common.{◌≡◌, ◌≢◌, ℕ, ◌<◌, List, length, Some, ap, sym, ◌∙◌, arith, slice_get, slice_set, replicate, length-set, get_or-set_same, get_or-set_other, get_or-replicate}
use Rattle.std.proofs.lemmas.Option.{slice_get_within, slice_get-get_or, get_or_from_slice_get}
use Rattle.std.proofs.Math.ListN.{length-replicate}

pub length-slice_set : {A : Type 0} (xs : List A) (i : ℕ) (x : A) → length (slice_set xs i x) ≡ length xs
length-slice_set xs i x = length-set xs i x

pub written_here : {A : Type 0} (xs : List A) (i : ℕ) (x : A) → i < length xs → slice_get (slice_set xs i x) i ≡ Some x
written_here xs i x within =
    let in' : i < length (slice_set xs i x) = omega (arith, length-set xs i x) in
    slice_get-get_or (slice_set xs i x) i x in' ∙ ap Some (get_or-set_same xs i x x within)

-- an element at another place was there before
pub written_elsewhere : {A : Type 0} (xs : List A) (i j : ℕ) (x y : A) → j ≢ i → slice_get (slice_set xs i x) j ≡ Some y → slice_get xs j ≡ Some y
written_elsewhere xs i j x y other is =
    let in' : j < length xs = omega (arith, slice_get_within (slice_set xs i x) j y is, length-set xs i x) in
    slice_get-get_or xs j y in' ∙ ap Some (sym (get_or-set_other xs i j x y other) ∙ get_or_from_slice_get (slice_set xs i x) j y y is)

-- an element at another place stays there
pub written_stays : {A : Type 0} (xs : List A) (i j : ℕ) (x y : A) → j ≢ i → slice_get xs j ≡ Some y → slice_get (slice_set xs i x) j ≡ Some y
written_stays xs i j x y other is =
    let within : j < length xs = slice_get_within xs j y is in
    let in' : j < length (slice_set xs i x) = omega (arith, length-set xs i x) in
    slice_get-get_or (slice_set xs i x) j y in' ∙ ap Some (get_or-set_other xs i j x y other ∙ get_or_from_slice_get xs j y y is)

pub slice_get-replicate : {A : Type 0} (n i : ℕ) (a y : A) → slice_get (replicate n a) i ≡ Some y → y ≡ a
slice_get-replicate n i a y is =
    let in' : i < n = omega (arith, slice_get_within (replicate n a) i y is, length-replicate n a) in
    sym (get_or_from_slice_get (replicate n a) i y y is) ∙ get_or-replicate n i a y in'
