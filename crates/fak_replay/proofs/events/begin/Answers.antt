use Rattle.std.proofs.Common.{rules}
use Rattle.fak_replay.proofs.events.begin.Goals as goal

pub returns-clause-outcome : goal.returns-clause-outcome
returns-clause-outcome c = search rules
