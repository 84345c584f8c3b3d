use Rattle.fak_files.proofs.Common.{rules}
use Rattle.fak_files.proofs.tally.FileTally.of.Goals as goal

pub invariant_of-result : goal.invariant_of-result
invariant_of-result c = search rules
