use Rattle.fak_model.proofs.Common.{[], ◌∷◌, refl, Up, Over, Back, No, room_by}
use Rattle.fak_model.proofs.Examples.{room_parts}
use Rattle.fak_model.proofs.laws.examples.room.the_calls_of_a_room_are_judged.Goals as goal

pub returns-clause-back : goal.returns-clause-back
returns-clause-back c = room_parts 2 (room_by 0 (Up 2) ∷ []) (room_by 1 (Over 1) ∷ room_by 1 (Back 1) ∷ []) (room_by 1 (Back 1) ∷ []) refl refl

pub returns-clause-back_amount : goal.returns-clause-back_amount
returns-clause-back_amount c = room_parts 2 (room_by 0 (Up 2) ∷ room_by 1 (Over 1) ∷ []) (room_by 1 (Back 1) ∷ []) (room_by 1 (Back 2) ∷ []) refl refl

pub returns-clause-begun_again : goal.returns-clause-begun_again
returns-clause-begun_again c = room_parts 2 (room_by 0 (Up 2) ∷ room_by 1 (Over 1) ∷ []) (room_by 1 (Back 1) ∷ room_by 1 (No 1) ∷ []) (room_by 1 (No 1) ∷ []) refl refl

pub returns-clause-others : goal.returns-clause-others
returns-clause-others c = room_parts 2 (room_by 0 (Up 2) ∷ room_by 1 (Over 1) ∷ []) (room_by 0 (No 1) ∷ []) (room_by 1 (Over 1) ∷ []) refl refl
