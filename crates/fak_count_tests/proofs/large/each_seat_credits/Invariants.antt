use Rattle.std.proofs.Common.{◌≡◌}
use Rattle.std.specs.List.{All}
use Rattle.fak_count.specs.Seats.{IsSeatOf}
use Rattle.fak_count_tests.proofs.large.each_seat_credits.Given as goal

-- the seats that are left, and the tally, belong to the credit
abbrev pub invariant-loop-before : goal.invariant-loop-before
invariant-loop-before g l = All (IsSeatOf l.credit.object) l.seats.items × (l.tally.object ≡ l.credit.object)
