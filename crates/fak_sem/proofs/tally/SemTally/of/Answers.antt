use Rattle.fak_sem.proofs.Common.{rules}
use Rattle.fak_sem.proofs.tally.SemTally.of.Goals as goal

pub invariant_of-result : goal.invariant_of-result
invariant_of-result g c = search rules

pub returns-clause-tally : goal.returns-clause-tally
returns-clause-tally g c = search rules
