use Rattle.fak_count.proofs.Common.{rules}
use Rattle.fak_count.proofs.opening.tested_limits.Goals as goal

pub returns-then-seats-eq0 : goal.returns-then-seats-eq0
returns-then-seats-eq0 c = search rules
