use Rattle.fak_count.proofs.Common.{rules}
use Rattle.fak_count.proofs.rooms.port.RoomPort.tir.Goals as goal

pub returns-in-Ok-clause-call : goal.returns-in-Ok-clause-call
returns-in-Ok-clause-call c = search rules

pub returns-in-Ok-clause-held : goal.returns-in-Ok-clause-held
returns-in-Ok-clause-held c = search rules

pub returns-in-Err-AtBound-clause-call : goal.returns-in-Err-AtBound-clause-call
returns-in-Err-AtBound-clause-call c = search rules

pub tir-requires-clause-amount : goal.tir-requires-clause-amount
tir-requires-clause-amount c = search rules

pub returns-in-Err-Worn-clause-call : goal.returns-in-Err-Worn-clause-call
returns-in-Err-Worn-clause-call c = search rules
