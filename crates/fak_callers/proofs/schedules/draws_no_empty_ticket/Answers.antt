use Rattle.std.proofs.Common.{◌≡◌, Option, None, subst, true, false, IsSome}
use Rattle.fak_callers.proofs.schedules.draws_no_empty_ticket.Goals as goal

nothing : {A : Type 0} (o : Option A) → o ≡ None → IsSome o → ⊥
nothing o none there = let same : false ≡ true = subst IsSome none there in absurd cc

pub returns : goal.returns
returns g c = λ size schedule s z none at. nothing _ none (c.a_granted_deletion_draws_an_item.ensures size schedule s z at)
