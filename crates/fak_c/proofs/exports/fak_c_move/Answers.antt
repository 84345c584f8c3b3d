use Rattle.std.proofs.Common.{rules}
use Rattle.fak_c.proofs.exports.fak_c_move.Goals as goal

pub returns-in-None : goal.returns-in-None
returns-in-None c = search rules
