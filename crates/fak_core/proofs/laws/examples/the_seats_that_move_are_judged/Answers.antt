use Rattle.fak_core.specs.ProgressExamples.{held_up}
use Rattle.fak_core.specs.QueueProgress.{HoldsTicketOf}
use Rattle.fak_core.proofs.Common.{same_or_not, ◌≡◌, subst, inl, inr, arith}
use Rattle.fak_core.proofs.laws.examples.the_seats_that_move_are_judged.Goals as goal

pub returns-clause-no_holder : goal.returns-clause-no_holder
returns-clause-no_holder c (s, l, h, moves) = elim (same_or_not s 0) [
  | inl q ↦ (let other : 0 ≡ 1 = subst (λ t. HoldsTicketOf 2 (held_up.phase t) 1) q h in omega (arith, other))
  | inr n ↦ (let one : s ≡ 1 = omega arith in let other : 0 ≡ 1 = subst (λ t. HoldsTicketOf 2 (held_up.phase t) 1) one h in omega (arith, other))
]
