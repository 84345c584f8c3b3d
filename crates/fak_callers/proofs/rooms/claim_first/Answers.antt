use Rattle.std.proofs.Common.{rules}
use Rattle.fak_callers.proofs.rooms.claim_first.Goals as goal

pub returns-in-Err-AtBound-clause-refused : goal.returns-in-Err-AtBound-clause-refused
returns-in-Err-AtBound-clause-refused c = search rules
