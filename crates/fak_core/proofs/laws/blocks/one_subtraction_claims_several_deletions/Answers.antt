use Rattle.fak_core.proofs.DeletionBlocks.{subs, first_subtracted, none_subtracted}
use Rattle.fak_core.proofs.laws.blocks.one_subtraction_claims_several_deletions.Goals as goal

pub returns : goal.returns
returns g c = record { some = subs; first = λ size l st seats. first_subtracted size st l seats; none = none_subtracted }
