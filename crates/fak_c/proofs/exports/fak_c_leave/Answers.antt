use Rattle.std.proofs.Common.{rules}
use Rattle.fak_c.proofs.exports.fak_c_leave.Goals as goal

pub returns-then-is_at_rest : goal.returns-then-is_at_rest
returns-then-is_at_rest c = search rules
