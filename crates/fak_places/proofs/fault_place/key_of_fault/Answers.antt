use Rattle.std.proofs.Common.{rules}
use Rattle.fak_places.proofs.fault_place.key_of_fault.Goals as goal

pub returns-in-UnknownOp : goal.returns-in-UnknownOp
returns-in-UnknownOp c = search rules
