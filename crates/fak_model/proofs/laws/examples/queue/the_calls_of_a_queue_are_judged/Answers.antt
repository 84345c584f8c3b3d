use Rattle.fak_model.proofs.Common.{ClaimIn, OverIn, BackIn, Put, Fill, EndIn, ClaimOut, OverOut, BackOut, NoItem, Got, Take, EndOut, Close, Closed, LateIn, by, inserted, [], ◌∷◌, ◌++◌, refl}
use Rattle.fak_model.proofs.Examples.{queue_parts}
use Rattle.fak_model.proofs.laws.examples.queue.the_calls_of_a_queue_are_judged.Goals as goal

pub returns-clause-back_in : goal.returns-clause-back_in
returns-clause-back_in c = queue_parts 1 (inserted 0 7 0) (by 1 OverIn ∷ by 1 BackIn ∷ []) (by 1 BackIn ∷ []) refl refl

pub returns-clause-put : goal.returns-clause-put
returns-clause-put c = queue_parts 1 [] (by 0 ClaimIn ∷ by 0 (Put 7) ∷ []) (by 0 (Put 7) ∷ []) refl refl

pub returns-clause-fill : goal.returns-clause-fill
returns-clause-fill c = queue_parts 2 (by 0 ClaimIn ∷ by 0 (Put 7) ∷ []) (by 0 (Fill 0) ∷ by 0 EndIn ∷ []) (by 0 (Fill 0) ∷ by 0 (Fill 0) ∷ []) refl refl

pub returns-clause-end_in : goal.returns-clause-end_in
returns-clause-end_in c = queue_parts 1 (by 0 ClaimIn ∷ by 0 (Put 7) ∷ []) (by 0 (Fill 0) ∷ by 0 EndIn ∷ []) (by 0 EndIn ∷ []) refl refl

pub returns-clause-back_out : goal.returns-clause-back_out
returns-clause-back_out c = queue_parts 1 [] (by 0 OverOut ∷ by 0 BackOut ∷ []) (by 0 BackOut ∷ []) refl refl

pub returns-clause-got : goal.returns-clause-got
returns-clause-got c = queue_parts 1 (inserted 0 7 0) (by 1 ClaimOut ∷ by 1 (Got 7) ∷ []) (by 1 (Got 7) ∷ []) refl refl

pub returns-clause-take : goal.returns-clause-take
returns-clause-take c = queue_parts 1 (inserted 0 7 0 ++ by 1 ClaimOut ∷ []) (by 1 (Got 7) ∷ by 1 (Take 0) ∷ []) (by 1 (Take 0) ∷ []) refl refl

pub returns-clause-end_out : goal.returns-clause-end_out
returns-clause-end_out c = queue_parts 1 (inserted 0 7 0 ++ by 1 ClaimOut ∷ by 1 (Got 7) ∷ []) (by 1 (Take 0) ∷ by 1 EndOut ∷ []) (by 1 EndOut ∷ []) refl refl

pub returns-clause-refusal : goal.returns-clause-refusal
returns-clause-refusal c = queue_parts 1 (by 0 ClaimIn ∷ []) (by 1 NoItem ∷ []) (by 0 NoItem ∷ []) refl refl

pub returns-clause-close : goal.returns-clause-close
returns-clause-close c = queue_parts 1 (by 0 ClaimIn ∷ []) (by 1 Close ∷ []) (by 0 Close ∷ []) refl refl

pub returns-clause-late : goal.returns-clause-late
returns-clause-late c = queue_parts 1 (by 0 Close ∷ by 1 LateIn ∷ []) (by 1 BackIn ∷ by 1 Closed ∷ []) (by 1 Closed ∷ []) refl refl

pub returns-clause-over : goal.returns-clause-over
returns-clause-over c = queue_parts 1 (by 0 OverOut ∷ []) (by 0 BackOut ∷ by 0 NoItem ∷ []) (by 0 NoItem ∷ []) refl refl

pub returns-clause-insertion : goal.returns-clause-insertion
returns-clause-insertion c = queue_parts 2 (inserted 0 7 0 ++ by 1 ClaimIn ∷ []) (by 1 (Put 8) ∷ []) (by 1 (Got 7) ∷ []) refl refl

pub returns-clause-deletion : goal.returns-clause-deletion
returns-clause-deletion c = queue_parts 2 (inserted 0 7 0 ++ by 1 ClaimOut ∷ []) (by 1 (Got 7) ∷ []) (by 1 (Put 8) ∷ []) refl refl
