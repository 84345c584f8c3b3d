use Rattle.fak_files.proofs.Common.{rules}
use Rattle.fak_files.proofs.port.FilePort.new.Goals as goal

pub returns-clause-seat : goal.returns-clause-seat
returns-clause-seat c = search rules
