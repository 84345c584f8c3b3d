use Rattle.fak_model.proofs.Common.{[], ◌∷◌, refl, Up, Over, Back, No, Release, room_by}
use Rattle.fak_model.proofs.Examples.{room_parts}
use Rattle.fak_model.proofs.laws.examples.room.the_answers_of_a_room_are_judged.Goals as goal

pub returns-clause-up : goal.returns-clause-up
returns-clause-up c = room_parts 2 (room_by 0 (Up 1) ∷ []) (room_by 1 (Up 1) ∷ []) (room_by 1 (Up 2) ∷ []) refl refl

pub returns-clause-no : goal.returns-clause-no
returns-clause-no c = room_parts 2 (room_by 0 (Up 1) ∷ []) (room_by 1 (No 2) ∷ []) (room_by 1 (No 1) ∷ []) refl refl

pub returns-clause-over : goal.returns-clause-over
returns-clause-over c = room_parts 2 (room_by 0 (Up 1) ∷ []) (room_by 1 (Over 2) ∷ []) (room_by 1 (Over 1) ∷ []) refl refl

pub returns-clause-release : goal.returns-clause-release
returns-clause-release c = room_parts 2 (room_by 0 (Up 1) ∷ []) (room_by 0 (Release 1) ∷ []) (room_by 0 (Release 2) ∷ []) refl refl

pub returns-clause-release_twice : goal.returns-clause-release_twice
returns-clause-release_twice c = room_parts 2 (room_by 0 (Up 1) ∷ room_by 1 (Up 1) ∷ room_by 0 (Release 1) ∷ []) (room_by 1 (Release 1) ∷ []) (room_by 0 (Release 1) ∷ []) refl refl

pub returns-clause-value_over : goal.returns-clause-value_over
returns-clause-value_over c = room_parts 2 (room_by 0 (Up 2) ∷ room_by 1 (Over 1) ∷ room_by 0 (Release 2) ∷ []) (room_by 2 (No 2) ∷ []) (room_by 1 (Back 1) ∷ room_by 2 (No 2) ∷ []) refl refl

pub returns-clause-value_release : goal.returns-clause-value_release
returns-clause-value_release c = room_parts 2 (room_by 0 (Up 2) ∷ []) (room_by 1 (No 1) ∷ []) (room_by 0 (Release 1) ∷ room_by 1 (No 1) ∷ []) refl refl
