use Rattle.std.proofs.Common.{rules}
use Rattle.example_lines.proofs.send.Goals as goal

pub drop-line-iterator-requires : goal.drop-line-iterator-requires
drop-line-iterator-requires g c = search rules
