use Rattle.fak_model.proofs.Common.{[], ◌∷◌, refl, file_by, Inode}
use Rattle.fak_model.specs.declared.file.FileKind.TheVariants.{Take, Over, Back, No, Set, Give}
use Rattle.fak_model.proofs.Examples.{file_parts}
use Rattle.fak_model.proofs.laws.examples.file.the_answers_of_a_file_table_are_judged.Goals as goal

pub returns-clause-take : goal.returns-clause-take
returns-clause-take c = file_parts 2 (file_by 0 (Take 1) ∷ []) (file_by 1 (Take 1) ∷ []) (file_by 1 (Take 2) ∷ []) refl refl

pub returns-clause-take_amount : goal.returns-clause-take_amount
returns-clause-take_amount c = file_parts 3 [] (file_by 0 (Take 3) ∷ []) (file_by 0 (Take 2) ∷ []) refl refl

pub returns-clause-no : goal.returns-clause-no
returns-clause-no c = file_parts 2 (file_by 0 (Take 1) ∷ []) (file_by 1 (No 2) ∷ []) (file_by 1 (No 1) ∷ []) refl refl

pub returns-clause-no_amount : goal.returns-clause-no_amount
returns-clause-no_amount c = file_parts 3 (file_by 0 (Take 3) ∷ []) (file_by 1 (No 1) ∷ []) (file_by 1 (No 2) ∷ []) refl refl

pub returns-clause-over : goal.returns-clause-over
returns-clause-over c = file_parts 2 (file_by 0 (Take 1) ∷ []) (file_by 1 (Over 2) ∷ []) (file_by 1 (Over 1) ∷ []) refl refl

pub returns-clause-over_amount : goal.returns-clause-over_amount
returns-clause-over_amount c = file_parts 3 (file_by 0 (Take 3) ∷ []) (file_by 1 (Over 3) ∷ []) (file_by 1 (Over 2) ∷ []) refl refl

pub returns-clause-set : goal.returns-clause-set
returns-clause-set c = file_parts 2 [] (file_by 0 (Take 2) ∷ file_by 0 (Set 0 Inode 7) ∷ []) (file_by 0 (Take 1) ∷ file_by 0 (Set 0 Inode 7) ∷ []) refl refl

pub returns-clause-count_over : goal.returns-clause-count_over
returns-clause-count_over c = file_parts 2 (file_by 0 (Take 1) ∷ file_by 1 (Over 2) ∷ file_by 0 Give ∷ []) (file_by 0 (No 1) ∷ []) (file_by 1 (Back 2) ∷ file_by 0 (No 1) ∷ []) refl refl

pub returns-clause-count_give : goal.returns-clause-count_give
returns-clause-count_give c = file_parts 2 (file_by 0 (Take 2) ∷ []) (file_by 1 (No 2) ∷ []) (file_by 0 Give ∷ file_by 1 (No 2) ∷ []) refl refl
