use Rattle.fak_count.proofs.Common.{rules}
use Rattle.fak_count.proofs.RoomSteps.{adds_allowed}
use Rattle.fak_count.proofs.rooms.steps.add.Goals as goal

pub fetch_add-requires : goal.fetch_add-requires
fetch_add-requires g c = (
  c.requires.token.table_is.0,
  search (rules, c.requires.token.table_is.1),
  rw (← c.requires.token.table_is.2, ← c.requires.amount.2) (adds_allowed _ _ _ c.requires.token.seat.0 _ _ c.requires.token.seat.1 (c.requires.amount.0, c.requires.amount.1) c.requires.token.stands),
)
