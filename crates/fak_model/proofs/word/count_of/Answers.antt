use Rattle.fak_model.proofs.Common.{rules}
use Rattle.fak_model.proofs.word.count_of.Goals as goal

pub returns-clause-sum : goal.returns-clause-sum
returns-clause-sum c = search rules

pub returns-clause-difference : goal.returns-clause-difference
returns-clause-difference c = search rules
