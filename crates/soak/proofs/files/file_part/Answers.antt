use Rattle.std.proofs.Common.{Some}
use Rattle.std.proofs.lemmas.List.Elements.{All-pop}
use Rattle.fak_files.specs.Calls.{IsFreeSeatOf}
use Rattle.soak.proofs.files.file_part.Goals as goal

pub visits-requires-clause-idle : goal.visits-requires-clause-idle
visits-requires-clause-idle g c = (All-pop (IsFreeSeatOf c.in_ok-table.table.object) _ _ (Some c.in-Some.last) c.in-Some.ensures.items c.in_ok-table.ensures.seats).0

pub read-requires-clause-object : goal.read-requires-clause-object
read-requires-clause-object g c = (All-pop (IsFreeSeatOf c.in_ok-table.table.object) _ _ (Some c.in-Some.last) c.in-Some.ensures.items c.in_ok-table.ensures.seats).1.0
