use Rattle.fak_model.proofs.Common.{ClaimOut, Got, by, inserted, [], ◌∷◌, ◌++◌, refl}
use Rattle.fak_model.proofs.Examples.{queue_parts}
use Rattle.fak_model.proofs.laws.examples.queue.the_items_of_a_queue_are_judged.Goals as goal

pub returns-clause-first : goal.returns-clause-first
returns-clause-first c = queue_parts 2 (inserted 0 7 0 ++ inserted 0 8 1 ++ by 1 ClaimOut ∷ []) (by 1 (Got 7) ∷ []) (by 1 (Got 8) ∷ []) refl refl

pub returns-clause-second : goal.returns-clause-second
returns-clause-second c = queue_parts 2 (inserted 0 7 0 ++ inserted 0 8 1 ++ by 1 ClaimOut ∷ by 2 ClaimOut ∷ by 1 (Got 7) ∷ []) (by 2 (Got 8) ∷ []) (by 2 (Got 7) ∷ []) refl refl

pub returns-clause-another : goal.returns-clause-another
returns-clause-another c = queue_parts 1 (inserted 0 7 0 ++ by 1 ClaimOut ∷ []) (by 1 (Got 7) ∷ []) (by 1 (Got 9) ∷ []) refl refl
