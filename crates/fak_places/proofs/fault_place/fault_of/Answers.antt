use Rattle.std.proofs.Common.{rules}
use Rattle.fak_places.proofs.fault_place.fault_of.Goals as goal

pub returns-in-Script : goal.returns-in-Script
returns-in-Script c = search rules
