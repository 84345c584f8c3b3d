-- Two cases: two numbers are equal, or not.
use Rattle.fak_model.proofs.Common.{◌≡◌, ◌≢◌, ◌⊎◌, ℕ, ◌==◌, cond, arith, nat_tests}

pub same_or_not : (a b : ℕ) → (a ≡ b) ⊎ (a ≢ b)
same_or_not a b = grind arith

pub cond_here : {B : Type 0} (s : ℕ) (x y : B) → cond (s == s) x y ≡ x
cond_here s x y = grind (arith, nat_tests)

pub cond_else : {B : Type 0} (s t : ℕ) (x y : B) → s ≢ t → cond (s == t) x y ≡ y
cond_else s t x y ne = grind (arith, nat_tests)
