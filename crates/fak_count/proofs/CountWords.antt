-- The word that keeps a count, after a step on it.
use Rattle.fak_count.proofs.Common.{◌≡◌, ℕ, ◌+◌, ◌-◌, ◌%◌, ◌^◌, ◌<◌, ◌≤◌, ℤ, pos, ◌+ℤ◌, ◌-ℤ◌, List, length-set, set, ap, ◌∙◌, arith, mod-eq_of_lt, get_or-set_same, ints, bias, count_place, KeepsCount, add-mod_left}

pub writes : (ws : List ℕ) (count new : ℤ) (w : ℕ) → KeepsCount count ws → pos w ≡ pos bias +ℤ new → KeepsCount new (set ws count_place w)
writes ws count new w k is = record {
  wide = length-set ws count_place w ∙ k.wide;
  count_is = ap pos (get_or-set_same ws count_place w 0 (let l = k.wide in omega (arith, l))) ∙ is;
}

-- the word after an add, and after a subtraction
pub added : (w d : ℕ) (count : ℤ) → pos w ≡ pos bias +ℤ count → w < 2 ^ 63 → d ≤ 1024 → pos ((w + d) % 2 ^ 64) ≡ pos bias +ℤ (count +ℤ pos d)
added w d count is small few =
    let less : w + d < 2 ^ 64 = omega (arith, small, few) in
    let plain : (w + d) % 2 ^ 64 ≡ w + d = mod-eq_of_lt less in
    omega (arith, ints, is, plain)

pub subtracted : (w d : ℕ) (count : ℤ) → pos w ≡ pos bias +ℤ count → w < 2 ^ 63 → d ≤ w → pos ((w + (2 ^ 64 - d)) % 2 ^ 64) ≡ pos bias +ℤ (count -ℤ pos d)
subtracted w d count is small enough =
    let sum : w + (2 ^ 64 - d) ≡ 2 ^ 64 + (w - d) = omega (arith, small, enough) in
    let less : w - d < 2 ^ 64 = omega (arith, small) in
    let plain : (w + (2 ^ 64 - d)) % 2 ^ 64 ≡ w - d = ap (λ x. x % 2 ^ 64) sum ∙ (add-mod_left (2 ^ 64) (w - d) ∙ mod-eq_of_lt less) in
    omega (arith, ints, is, plain, enough)
