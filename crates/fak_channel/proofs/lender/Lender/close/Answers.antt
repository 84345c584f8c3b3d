use Rattle.fak_channel.proofs.Borrowing.{closed_by}
use Rattle.fak_channel.proofs.lender.Lender.close.Goals as goal

pub returns-clause-call : goal.returns-clause-call
returns-clause-call g c = closed_by c.end.result.now.channel.now c.end.result.now.seat c.close-closed.new.self.seat c.close-closed.result c.close-closed.ensures.call
