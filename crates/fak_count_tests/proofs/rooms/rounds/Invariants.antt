use Rattle.std.proofs.Common.{◌≡◌}
use Rattle.fak_count_tests.proofs.rooms.rounds.Given as goal

abbrev pub invariant-loop : goal.invariant-loop
invariant-loop l = l.seat.object ≡ l.room.object
