use Rattle.std.proofs.Common.{rules}
use Rattle.fak_handles.proofs.opening.clear.Goals as goal

pub loop-i-preserved : goal.loop-i-preserved
loop-i-preserved c = search rules
