use Rattle.fak_count.specs.Seats.{IsSeatOf}
use Rattle.fak_count_tests.proofs.rooms.each_amount_fits.Given as goal

-- both seats belong to the room
abbrev pub invariant-loop-d : goal.invariant-loop-d
invariant-loop-d g l = IsSeatOf l.room.object l.a × IsSeatOf l.room.object l.b
