use Rattle.fak_files.proofs.Common.{rules}
use Rattle.fak_files.proofs.port.FilePort.set.Goals as goal

pub returns-in-Writing-clause-call : goal.returns-in-Writing-clause-call
returns-in-Writing-clause-call c = search rules
