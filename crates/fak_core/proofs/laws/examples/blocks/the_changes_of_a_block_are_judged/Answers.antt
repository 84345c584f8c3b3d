use Rattle.fak_core.proofs.Common.{Phase, Idle, AddUp, Option, Some, None, ◌≡◌, ℕ, ap, inl, inr, arith}
use Rattle.fak_core.proofs.laws.examples.blocks.the_changes_of_a_block_are_judged.Goals as goal

pub returns-clause-turn : goal.returns-clause-turn
returns-clause-turn c changes = let at_0 : 1 ≡ 0 = ap (λ f. f 0) changes.turn_is in omega (arith, at_0)

pub returns-clause-cell : goal.returns-clause-cell
returns-clause-cell c changes = let at_0 : ◌≡◌ {A = Option ℕ} (Some 5) None = ap (λ f. f 0) changes.cell_is in absurd cc

pub returns-clause-other : goal.returns-clause-other
returns-clause-other c changes = let at_1 : ◌≡◌ {A = Phase ℕ} (AddUp 10) Idle = changes.others 1 (λ i. elim i [ inl e ↦ omega (arith, e) | inr z ↦ z ]) in absurd cc
