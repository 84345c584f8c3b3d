-- Small facts of tests and of counts.
use Rattle.std.specs.Prelude.{◌≡◌, ◌⊎◌, ℕ, ◌<◌, nat_lt, ℤ, pos, ◌+ℤ◌, ◌≤ℤ◌, int_lt, Bool, true, false, not, ◌&&◌, ◌||◌, cond}
use Rattle.fak_core.proofs.Common.{arith, ints, nat_tests, common_steps}

pub not_both : (b : Bool) → b ≡ true → b ≡ false → ⊥
not_both b is is' = cc

pub both_true : (a b : Bool) → (a && b) ≡ true → (a ≡ true) × (b ≡ true)
both_true a b e = grind (arith, common_steps)

pub make_both : (a b : Bool) → a ≡ true → b ≡ true → (a && b) ≡ true
make_both a b x y = grind (arith, common_steps)

pub one_false : (a b : Bool) → (a && b) ≡ false → (a ≡ false) ⊎ (b ≡ false)
one_false a b e = grind (arith, common_steps)

pub neither_true : (a b : Bool) → (a || b) ≡ false → (a ≡ false) × (b ≡ false)
neither_true a b e = grind (arith, common_steps)

pub not_true : (b : Bool) → not b ≡ true → b ≡ false
not_true b e = grind (arith, common_steps)

pub not_false : (b : Bool) → not b ≡ false → b ≡ true
not_false b e = grind (arith, common_steps)

-- the case of a test that is true
pub if_so : {B : Type 0} (b : Bool) (x y : B) → b ≡ true → cond b x y ≡ x
if_so b x y t = cc

pub lt_true : (a b : ℕ) → a < b → nat_lt a b ≡ true
lt_true a b l = grind (arith, nat_tests)

pub lt_if : (a b : ℕ) → nat_lt a b ≡ true → a < b
lt_if a b t = grind (arith, nat_tests)

-- ---- counts

pub is_full : (u : ℤ) (size : ℕ) → int_lt u (pos size) ≡ false → pos size ≤ℤ u
is_full u size b = grind (arith, ints, common_steps)

pub is_empty : (u : ℤ) → int_lt (pos 0) u ≡ false → u ≤ℤ pos 0
is_empty u b = grind (arith, ints, common_steps)

pub is_some : (u : ℤ) → int_lt (pos 0) u ≡ true → pos 1 ≤ℤ u
is_some u b = grind (arith, ints, common_steps)

pub void_is : (u : ℤ) → not (int_lt (pos 0) u) ≡ true → u ≤ℤ pos 0
void_is u v = grind (arith, ints, common_steps)

pub void_at : (u : ℤ) → u ≤ℤ pos 0 → not (int_lt (pos 0) u) ≡ true
void_at u l = grind (arith, ints, common_steps)

pub void_before : (u : ℤ) → not (int_lt (pos 0) (u +ℤ pos 1)) ≡ true → not (int_lt (pos 0) u) ≡ true
void_before u v = grind (arith, ints, common_steps)
