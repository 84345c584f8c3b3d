use Rattle.std.proofs.Common.{rules}
use Rattle.fak_places.proofs.step.wrong_index.Goals as goal

pub returns-in-Some : goal.returns-in-Some
returns-in-Some c = search rules
