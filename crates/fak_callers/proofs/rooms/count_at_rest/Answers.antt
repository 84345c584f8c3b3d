use Rattle.std.proofs.Common.{rules}
use Rattle.fak_callers.proofs.rooms.count_at_rest.Goals as goal

pub returns : goal.returns
returns c = search rules
