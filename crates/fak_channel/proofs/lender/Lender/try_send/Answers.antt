use Rattle.fak_channel.proofs.Borrowing.{refused_try_send, sent_one}
use Rattle.fak_channel.proofs.lender.Lender.try_send.Goals as goal

pub returns-in-Ok : goal.returns-in-Ok
returns-in-Ok g c = sent_one c.end.result.now.channel.now c.end.result.now.seat _ c.args.item c.in-Ok.ensures.call c.try_send-sent.ensures.awake

pub returns-in-Err : goal.returns-in-Err
returns-in-Err g c = refused_try_send c.end.result.now.channel.now c.end.result.now.seat _ c.args.item c.in-Err.fault c.in-Err.ensures.call c.try_send-sent.ensures.awake
