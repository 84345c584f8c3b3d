use Rattle.soak.proofs.Dealing.{dealt_are_counts}
use Rattle.soak.proofs.counts.open_credit.Goals as goal

pub returns : goal.returns
returns c = dealt_are_counts c.in-Ok.account.object 1099511627776 5 c.in-Ok.seats.items c.in-Ok.ensures.3
