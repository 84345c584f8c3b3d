use Rattle.std.proofs.Common.{rules}
use Rattle.fak_handles.proofs.opening.is_number_of_seats.Goals as goal

pub returns-then-count-ge1 : goal.returns-then-count-ge1
returns-then-count-ge1 c = search rules
