use Rattle.fak_channel.proofs.Borrowing.{received_one, refused_try_receive}
use Rattle.fak_channel.proofs.lender.Lender.try_receive.Goals as goal

pub returns-in-Ok : goal.returns-in-Ok
returns-in-Ok g c = received_one c.end.result.now.channel.now c.end.result.now.seat _ c.in-Ok.item c.in-Ok.ensures.call c.try_receive-received.ensures.awake

pub returns-in-Err : goal.returns-in-Err
returns-in-Err g c = refused_try_receive c.end.result.now.channel.now c.end.result.now.seat _ c.in-Err.fault c.in-Err.ensures.call c.try_receive-received.ensures.awake
