use Rattle.fak_count.proofs.Common.{rules}
use Rattle.fak_count.proofs.RoomSteps.{hears_allowed}
use Rattle.fak_count.proofs.rooms.steps.hear.Goals as goal

pub load-requires : goal.load-requires
load-requires g c = (c.requires.table.0, search (rules, c.requires.table.1), rw (← c.requires.table.2) (hears_allowed _ _ _ _))
