use Rattle.fak_files.proofs.Common.{rules}
use Rattle.fak_files.proofs.opening.tested_limits.Goals as goal

pub returns-then-seats-eq0 : goal.returns-then-seats-eq0
returns-then-seats-eq0 c = search rules
