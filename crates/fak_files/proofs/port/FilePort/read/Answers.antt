use Rattle.fak_files.proofs.Common.{rules}
use Rattle.fak_files.proofs.port.FilePort.read.Goals as goal

pub returns-clause-call : goal.returns-clause-call
returns-clause-call g c = search rules
