use Rattle.std.proofs.Common.{rules}
use Rattle.fak_channel.proofs.Borrowing.{sent}
use Rattle.fak_channel.proofs.lender.Lender.send.Goals as goal

pub returns : goal.returns
returns g c = search (rules, sent)
