-- The front of an input, which is read as the whole.
use Rattle.std.proofs.Common.{◌≡◌, ℕ, ◌<◌, ◌≤◌, Bool, true, false, List, length, take, refl, ap, arith, ltb-true, ltb-false, lt-ltb}
use Rattle.std.proofs.lemmas.List.{length-take-le, take_all}
use Rattle.std.proofs.Math.Dec.{ltb}
use Rattle.fak_text.specs.Values.{input_in, most_kept}

-- an input that is too long is so by its front already
too_long : (input : List ℕ) → 1048576 < length input → input_in (take most_kept input) ≡ input_in input
unfolding input_in
too_long input lt =
    let all : ltb 1048576 (length input) ≡ true = lt-ltb 1048576 (length input) lt in
    let enough : most_kept ≤ length input = omega arith in
    let front : ltb 1048576 (length (take most_kept input)) ≡ true = rw (length-take-le most_kept input enough) refl in
    rw (all, front) refl

by_length : (input : List ℕ) (b : Bool) → ltb 1048576 (length input) ≡ b → input_in (take most_kept input) ≡ input_in input
by_length input true h = too_long input (ltb-true 1048576 (length input) h)
by_length input false h =
    let le : length input ≤ 1048576 = ltb-false 1048576 (length input) h in
    ap input_in (take_all most_kept input (omega arith))

-- the front that is kept is read as the whole input
pub front_read : (input : List ℕ) → input_in (take most_kept input) ≡ input_in input
front_read input = by_length input (ltb 1048576 (length input)) refl
