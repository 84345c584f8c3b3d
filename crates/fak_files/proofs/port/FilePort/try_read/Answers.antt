use Rattle.fak_files.proofs.Common.{rules}
use Rattle.fak_files.proofs.port.FilePort.try_read.Goals as goal

pub returns-clause-call : goal.returns-clause-call
returns-clause-call c = search rules
