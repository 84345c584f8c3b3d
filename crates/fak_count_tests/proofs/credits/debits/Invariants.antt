use Rattle.std.proofs.Common.{◌≡◌}
use Rattle.fak_count_tests.proofs.credits.debits.Given as goal

abbrev pub invariant-loop : goal.invariant-loop
invariant-loop l = l.seat.object ≡ l.credit.object
