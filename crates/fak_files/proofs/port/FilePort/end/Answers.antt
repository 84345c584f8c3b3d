use Rattle.fak_files.proofs.Common.{rules}
use Rattle.fak_files.proofs.port.FilePort.end.Goals as goal

pub returns-in-Reading : goal.returns-in-Reading
returns-in-Reading c = search rules
