use Rattle.std.proofs.Common.{refl, arith}
use Rattle.fak_model.specs.Examples.{file_by}
use Rattle.fak_model.specs.declared.file.FileKind.TheVariants.{Give}
use Rattle.fak_callers.proofs.words.a_hold_ends_with_its_own_give.Goals as goal

pub returns-clause-own : goal.returns-clause-own
returns-clause-own c keeps = keeps 0 (file_by 0 Give) (omega arith) refl refl
