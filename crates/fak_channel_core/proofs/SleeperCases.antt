-- How known states of channels with three ends are judged.
use Rattle.std.specs.Prelude.{◌≡◌, ℕ, ◌<◌, true, false}
use Rattle.fak_core.proofs.Common.{arith, sym, subst, inl, inr, same_or_not}

pub of_three : (P : ℕ → Type 0) → P 0 → P 1 → P 2 → (e : ℕ) → e < 3 → P e
of_three P p0 p1 p2 e l = elim (same_or_not e 0) [
  | inl q ↦ subst P (sym q) p0
  | inr ne0 ↦ elim (same_or_not e 1) [
    | inl q ↦ subst P (sym q) p1
    | inr ne1 ↦ (let two : e ≡ 2 = omega arith in subst P (sym two) p2)
  ]
]

pub not_set : false ≡ true → ⊥
not_set e = cc

pub not_one : ◌≡◌ {A = ℕ} 1 0 → ⊥
not_one e = omega arith
