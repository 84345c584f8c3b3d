use Rattle.std.proofs.Common.{rules}
use Rattle.fak_handles.proofs.room.codes.of_tir.Goals as goal

pub returns-in-Some-Err-Worn-clause-code : goal.returns-in-Some-Err-Worn-clause-code
returns-in-Some-Err-Worn-clause-code c = search rules
