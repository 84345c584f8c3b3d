use Rattle.std.proofs.Common.{rules}
use Rattle.fak_c.proofs.exports.queue.fak_c_count.Goals as goal

pub returns-clause-call : goal.returns-clause-call
returns-clause-call c = search rules

pub returns-clause-spares : goal.returns-clause-spares
returns-clause-spares c = search rules
