use Rattle.fak_model.proofs.Common.{ClaimIn, OverIn, NoRoom, Put, Fill, EndIn, ClaimOut, OverOut, NoItem, Close, Closed, LateIn, by, deleted, inserted, [], ◌∷◌, ◌++◌, refl}
use Rattle.fak_model.proofs.Examples.{queue_parts}
use Rattle.fak_model.proofs.laws.examples.queue.the_answers_of_a_queue_are_judged.Goals as goal

pub returns-clause-no_room : goal.returns-clause-no_room
returns-clause-no_room c = queue_parts 1 (inserted 0 7 0) (by 1 NoRoom ∷ []) (deleted 1 7 0 ++ by 1 NoRoom ∷ []) refl refl

pub returns-clause-no_room_open : goal.returns-clause-no_room_open
returns-clause-no_room_open c = queue_parts 1 (inserted 0 7 0) (by 1 NoRoom ∷ by 0 Close ∷ []) (by 0 Close ∷ by 1 NoRoom ∷ []) refl refl

pub returns-clause-over_in : goal.returns-clause-over_in
returns-clause-over_in c = queue_parts 1 (inserted 0 7 0) (by 1 OverIn ∷ []) (deleted 1 7 0 ++ by 1 OverIn ∷ []) refl refl

pub returns-clause-over_in_open : goal.returns-clause-over_in_open
returns-clause-over_in_open c = queue_parts 1 (inserted 0 7 0) (by 1 OverIn ∷ by 0 Close ∷ []) (by 0 Close ∷ by 1 OverIn ∷ []) refl refl

pub returns-clause-claim_in : goal.returns-clause-claim_in
returns-clause-claim_in c = queue_parts 1 (inserted 0 7 0) (deleted 1 7 0 ++ by 1 ClaimIn ∷ []) (by 1 ClaimIn ∷ []) refl refl

pub returns-clause-claim_in_open : goal.returns-clause-claim_in_open
returns-clause-claim_in_open c = queue_parts 1 [] (by 1 ClaimIn ∷ by 0 Close ∷ []) (by 0 Close ∷ by 1 ClaimIn ∷ []) refl refl

pub returns-clause-closed : goal.returns-clause-closed
returns-clause-closed c = queue_parts 1 [] (by 0 Close ∷ by 1 Closed ∷ []) (by 1 Closed ∷ []) refl refl

pub returns-clause-late_in : goal.returns-clause-late_in
returns-clause-late_in c = queue_parts 1 [] (by 0 Close ∷ by 1 LateIn ∷ []) (by 1 LateIn ∷ []) refl refl

pub returns-clause-no_item : goal.returns-clause-no_item
returns-clause-no_item c = queue_parts 1 [] (by 1 NoItem ∷ [] ++ inserted 0 7 0) (inserted 0 7 0 ++ by 1 NoItem ∷ []) refl refl

pub returns-clause-over_out : goal.returns-clause-over_out
returns-clause-over_out c = queue_parts 1 [] (by 1 OverOut ∷ [] ++ inserted 0 7 0) (inserted 0 7 0 ++ by 1 OverOut ∷ []) refl refl

pub returns-clause-claim_out : goal.returns-clause-claim_out
returns-clause-claim_out c = queue_parts 1 (by 0 ClaimIn ∷ by 0 (Put 7) ∷ by 0 (Fill 0) ∷ []) (by 0 EndIn ∷ by 1 ClaimOut ∷ []) (by 1 ClaimOut ∷ []) refl refl

pub returns-clause-claim_out_again : goal.returns-clause-claim_out_again
returns-clause-claim_out_again c = queue_parts 2 (inserted 0 7 0 ++ by 1 ClaimOut ∷ []) (inserted 0 8 1 ++ by 2 ClaimOut ∷ []) (by 2 ClaimOut ∷ []) refl refl

pub returns-clause-claim_out_shut : goal.returns-clause-claim_out_shut
returns-clause-claim_out_shut c = queue_parts 1 (by 0 Close ∷ []) (by 1 NoItem ∷ []) (by 1 ClaimOut ∷ []) refl refl
