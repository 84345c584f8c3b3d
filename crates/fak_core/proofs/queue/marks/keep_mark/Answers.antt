use Rattle.fak_core.proofs.Common.{rules}
use Rattle.fak_core.proofs.queue.marks.keep_mark.Goals as goal

pub returns-in-Some : goal.returns-in-Some
returns-in-Some c = search rules
