use Rattle.fak_text.proofs.Common.{rules}
use Rattle.fak_text.proofs.reading.schedule.room_op.Goals as goal

pub str_eq-requires : goal.str_eq-requires
str_eq-requires c = search rules
