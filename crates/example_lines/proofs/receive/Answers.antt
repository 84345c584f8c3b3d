use Rattle.std.proofs.Common.{rules}
use Rattle.example_lines.proofs.receive.Goals as goal

pub loop-preserved : goal.loop-preserved
loop-preserved g c = search rules
