use Rattle.fak_files.proofs.Common.{rules}
use Rattle.fak_files.proofs.port.FilePort.into_seat.Goals as goal

pub returns-clause-free : goal.returns-clause-free
returns-clause-free c = search rules

pub returns-clause-seat : goal.returns-clause-seat
returns-clause-seat c = search rules
