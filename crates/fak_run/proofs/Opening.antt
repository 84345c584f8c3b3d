-- The lists before the first step.
use Rattle.fak_run.proofs.Common.{◌≡◌, ℕ, suc, ◌+◌, ◌∷◌, ap, sym, ◌∙◌, numbers_from}

-- the first number, and the others
pub numbers_from-next : (a k m b : ℕ) → k ≡ suc m → b ≡ a + 1 → numbers_from a k ≡ a ∷ numbers_from b m
numbers_from-next a k m b one next =
    ap (numbers_from a) one ∙ ap (λ (n : ℕ). a ∷ numbers_from n m) (sym next)
