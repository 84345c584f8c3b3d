use Rattle.std.proofs.Common.{rules}
use Rattle.fak_replay.proofs.trace.is_unmarked_alike.Goals as goal

pub returns-then-eq : goal.returns-then-eq
returns-then-eq c = search rules
