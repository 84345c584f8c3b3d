use Rattle.soak.proofs.Dealing.{dealt_are_free}
use Rattle.soak.proofs.files.open_table.Goals as goal

pub returns-clause-seats : goal.returns-clause-seats
returns-clause-seats c = dealt_are_free c.in-Ok.table.object 1099511627776 5 c.in-Ok.seats.items c.in-Ok.ensures.3
