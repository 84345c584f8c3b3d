use Rattle.fak_model.proofs.Common.{[], ◌∷◌, refl, file_by, Inode, Uses}
use Rattle.fak_model.specs.declared.file.FileKind.TheVariants.{Take, Over, Back, No, Set, Give}
use Rattle.fak_model.proofs.Examples.{file_parts}
use Rattle.fak_model.proofs.laws.examples.file.the_calls_of_a_file_table_are_judged.Goals as goal

pub returns-clause-back : goal.returns-clause-back
returns-clause-back c = file_parts 2 (file_by 0 (Take 2) ∷ []) (file_by 1 (Over 1) ∷ file_by 1 (Back 1) ∷ []) (file_by 1 (Back 1) ∷ []) refl refl

pub returns-clause-back_amount : goal.returns-clause-back_amount
returns-clause-back_amount c = file_parts 2 (file_by 0 (Take 2) ∷ file_by 1 (Over 1) ∷ []) (file_by 1 (Back 1) ∷ []) (file_by 1 (Back 2) ∷ []) refl refl

pub returns-clause-give : goal.returns-clause-give
returns-clause-give c = file_parts 2 [] (file_by 0 (Take 1) ∷ file_by 0 Give ∷ []) (file_by 0 Give ∷ []) refl refl

pub returns-clause-give_again : goal.returns-clause-give_again
returns-clause-give_again c = file_parts 2 (file_by 0 (Take 1) ∷ file_by 0 Give ∷ []) (file_by 0 (Take 1) ∷ file_by 0 Give ∷ []) (file_by 0 Give ∷ []) refl refl

pub returns-clause-take : goal.returns-clause-take
returns-clause-take c = file_parts 2 (file_by 0 (Take 1) ∷ []) (file_by 1 (Take 1) ∷ []) (file_by 0 (Take 1) ∷ []) refl refl

pub returns-clause-no : goal.returns-clause-no
returns-clause-no c = file_parts 2 (file_by 0 (Take 2) ∷ []) (file_by 1 (No 1) ∷ []) (file_by 0 (No 1) ∷ []) refl refl

pub returns-clause-set : goal.returns-clause-set
returns-clause-set c = file_parts 0 [] (file_by 0 (Take 0) ∷ file_by 0 (Set 0 Inode 7) ∷ []) (file_by 0 (Set 0 Inode 7) ∷ []) refl refl

pub returns-clause-set_after_give : goal.returns-clause-set_after_give
returns-clause-set_after_give c = file_parts 0 (file_by 0 (Take 0) ∷ []) (file_by 0 (Set 0 Uses 1) ∷ file_by 0 Give ∷ []) (file_by 0 Give ∷ file_by 0 (Set 0 Uses 1) ∷ []) refl refl
