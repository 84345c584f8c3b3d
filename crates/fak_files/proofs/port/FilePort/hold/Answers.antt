use Rattle.fak_files.proofs.Common.{rules}
use Rattle.fak_files.proofs.port.FilePort.hold.Goals as goal

pub returns-clause-hold : goal.returns-clause-hold
returns-clause-hold c = search rules
