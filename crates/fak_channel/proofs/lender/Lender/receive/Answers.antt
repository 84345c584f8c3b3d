use Rattle.std.proofs.Common.{rules}
use Rattle.fak_channel.proofs.Borrowing.{received}
use Rattle.fak_channel.proofs.lender.Lender.receive.Goals as goal

pub returns : goal.returns
returns g c = search (rules, received)
