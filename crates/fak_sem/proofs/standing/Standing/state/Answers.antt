use Rattle.fak_sem.proofs.Common.{rules}
use Rattle.fak_sem.proofs.standing.Standing.state.Goals as goal

pub returns-in-Parking : goal.returns-in-Parking
returns-in-Parking g c = search rules

pub returns-in-Parking-2 : goal.returns-in-Parking-2
returns-in-Parking-2 g c = search rules
