use Rattle.fak_files_tests.proofs.Dealing.{dealt_are_of}
use Rattle.fak_files_tests.proofs.large.open.Goals as goal

pub returns-clause-seats : goal.returns-clause-seats
returns-clause-seats g c = dealt_are_of c.in-Ok.table.object _ _ c.in-Ok.seats.items c.in-Ok.ensures.3
