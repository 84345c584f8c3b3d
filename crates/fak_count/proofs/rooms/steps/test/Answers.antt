use Rattle.fak_count.proofs.Common.{rules}
use Rattle.fak_count.proofs.RoomSteps.{tests_allowed}
use Rattle.fak_count.proofs.rooms.steps.test.Goals as goal

pub load-requires : goal.load-requires
load-requires g c = (
  c.requires.token.table_is.0,
  search (rules, c.requires.token.table_is.1),
  rw (← c.requires.token.table_is.2, ← c.requires.amount.2) (tests_allowed _ _ _ c.requires.token.seat.0 _ _ c.requires.token.seat.1 (c.requires.amount.0, c.requires.amount.1) c.requires.token.stands),
)
