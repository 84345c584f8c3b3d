use Rattle.fak_core.proofs.Common.{rules}
use Rattle.fak_core.proofs.room.moves.begun_phase.Goals as goal

pub returns-in_default : goal.returns-in_default
returns-in_default c = search rules
