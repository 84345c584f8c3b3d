use Rattle.fak_count.proofs.Common.{rules}
use Rattle.fak_count.proofs.RoomSteps.{releases_allowed}
use Rattle.fak_count.proofs.rooms.steps.release.Goals as goal

pub fetch_sub-requires : goal.fetch_sub-requires
fetch_sub-requires g c = (
  c.requires.token.table_is.0,
  search (rules, c.requires.token.table_is.1),
  rw (← c.requires.token.table_is.2, ← c.requires.amount.2) (releases_allowed _ _ _ c.requires.token.seat.0 _ _ c.requires.token.seat.1 (c.requires.amount.0, c.requires.amount.1) c.requires.token.stands c.requires.holds),
)
