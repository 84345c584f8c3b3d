use Rattle.fak_processor.proofs.Common.{rules}
use Rattle.fak_processor.proofs.seats.files.Files.open.Goals as goal

pub returns-in_ok-i-in-None-clause-change : goal.returns-in_ok-i-in-None-clause-change
returns-in_ok-i-in-None-clause-change c = search rules
