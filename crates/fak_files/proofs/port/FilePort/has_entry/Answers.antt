use Rattle.fak_files.proofs.Common.{rules}
use Rattle.fak_files.proofs.port.FilePort.has_entry.Goals as goal

pub returns : goal.returns
returns c = search rules
