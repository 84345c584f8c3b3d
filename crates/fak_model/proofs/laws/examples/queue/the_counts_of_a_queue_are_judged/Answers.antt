use Rattle.fak_model.proofs.Common.{ClaimIn, OverIn, BackIn, NoRoom, Put, Fill, EndIn, ClaimOut, OverOut, BackOut, NoItem, Got, Take, EndOut, by, deleted, inserted, [], ◌∷◌, ◌++◌, refl}
use Rattle.fak_model.proofs.Examples.{queue_parts}
use Rattle.fak_model.proofs.laws.examples.queue.the_counts_of_a_queue_are_judged.Goals as goal

pub returns-clause-over_in : goal.returns-clause-over_in
returns-clause-over_in c = queue_parts 1 (inserted 0 7 0 ++ by 1 OverIn ∷ [] ++ deleted 2 7 0) (by 3 NoRoom ∷ []) (by 1 BackIn ∷ by 3 NoRoom ∷ []) refl refl

pub returns-clause-end_out : goal.returns-clause-end_out
returns-clause-end_out c = queue_parts 1 (inserted 0 7 0 ++ by 1 ClaimOut ∷ by 1 (Got 7) ∷ by 1 (Take 0) ∷ []) (by 2 NoRoom ∷ []) (by 1 EndOut ∷ by 2 NoRoom ∷ []) refl refl

pub returns-clause-over_out : goal.returns-clause-over_out
returns-clause-over_out c = queue_parts 1 (by 1 OverOut ∷ [] ++ inserted 0 7 0) (by 2 NoItem ∷ []) (by 1 BackOut ∷ by 2 NoItem ∷ []) refl refl

pub returns-clause-end_in : goal.returns-clause-end_in
returns-clause-end_in c = queue_parts 1 (by 0 ClaimIn ∷ by 0 (Put 7) ∷ by 0 (Fill 0) ∷ []) (by 1 NoItem ∷ []) (by 0 EndIn ∷ by 1 NoItem ∷ []) refl refl
