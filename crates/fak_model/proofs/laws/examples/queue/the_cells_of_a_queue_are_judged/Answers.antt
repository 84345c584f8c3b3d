use Rattle.fak_model.proofs.Common.{ClaimIn, Put, Fill, ClaimOut, Got, Take, by, deleted, inserted, [], ◌∷◌, ◌++◌, refl}
use Rattle.fak_model.proofs.Examples.{queue_parts}
use Rattle.fak_model.proofs.laws.examples.queue.the_cells_of_a_queue_are_judged.Goals as goal

pub returns-clause-fill_ticket : goal.returns-clause-fill_ticket
returns-clause-fill_ticket c = queue_parts 2 (by 0 ClaimIn ∷ by 1 ClaimIn ∷ by 0 (Put 7) ∷ by 1 (Put 8) ∷ []) (by 1 (Fill 1) ∷ []) (by 1 (Fill 0) ∷ []) refl refl

pub returns-clause-fill_ticket_ahead : goal.returns-clause-fill_ticket_ahead
returns-clause-fill_ticket_ahead c = queue_parts 2 (by 0 ClaimIn ∷ by 0 (Put 7) ∷ []) (by 0 (Fill 0) ∷ []) (by 0 (Fill 1) ∷ []) refl refl

pub returns-clause-take_ticket : goal.returns-clause-take_ticket
returns-clause-take_ticket c = queue_parts 2 (inserted 0 7 0 ++ inserted 0 8 1 ++ by 1 ClaimOut ∷ by 1 (Got 7) ∷ []) (by 1 (Take 0) ∷ []) (by 1 (Take 1) ∷ []) refl refl

pub returns-clause-fill : goal.returns-clause-fill
returns-clause-fill c = queue_parts 2 (inserted 0 7 0 ++ inserted 0 8 1 ++ by 1 ClaimOut ∷ by 1 (Got 7) ∷ [] ++ deleted 2 8 1 ++ by 0 ClaimIn ∷ by 0 (Put 9) ∷ []) (by 1 (Take 0) ∷ by 0 (Fill 2) ∷ []) (by 0 (Fill 2) ∷ []) refl refl

pub returns-clause-take : goal.returns-clause-take
returns-clause-take c = queue_parts 2 (by 0 ClaimIn ∷ by 0 (Put 7) ∷ [] ++ inserted 1 8 1 ++ by 2 ClaimOut ∷ by 2 (Got 7) ∷ []) (by 0 (Fill 0) ∷ by 2 (Take 0) ∷ []) (by 2 (Take 0) ∷ []) refl refl
