use Rattle.fak_text.proofs.Common.{rules}
use Rattle.fak_text.proofs.fault.Field.name.Goals as goal

pub returns-in-Files : goal.returns-in-Files
returns-in-Files c = search rules
