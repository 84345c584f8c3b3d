use Rattle.fak_files.proofs.Common.{rules}
use Rattle.fak_files.proofs.phase.Access.amount.Goals as goal

pub returns-in-Write : goal.returns-in-Write
returns-in-Write c = search rules
