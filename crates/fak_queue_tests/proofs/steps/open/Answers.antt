use Rattle.std.specs.Prelude.{◌≡◌, Ok, Result, MatchResult}
use Rattle.std.proofs.Common.{subst}
use Rattle.fak_queue_tests.proofs.Dealing.{dealt_are_of}
use Rattle.fak_queue_tests.proofs.steps.open.Goals as goal

-- what holds of the value of an answer that is known to be granted
granted : {A E : Type 0} (P : A → Type 0) (Q : E → Type 0) {r : Result A E} {a : A} → r ≡ Ok a → MatchResult r P Q → P a
granted P Q = subst (λ s. MatchResult s P Q)

pub returns : goal.returns
returns g c = dealt_are_of c.expect.result.0.object _ _ c.expect.result.1.items (granted _ _ c.expect.ensures c.open.ensures).3
