use Rattle.fak_files.proofs.Common.{rules}
use Rattle.fak_files.proofs.table.FileTable.try_write.Goals as goal

pub returns-clause-call : goal.returns-clause-call
returns-clause-call c = search rules

pub returns-clause-hold : goal.returns-clause-hold
returns-clause-hold c = search rules
