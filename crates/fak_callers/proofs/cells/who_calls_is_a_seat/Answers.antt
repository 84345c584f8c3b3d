use Rattle.std.proofs.Common.{◌≤◌, arith}
use Rattle.fak_callers.proofs.cells.who_calls_is_a_seat.Goals as goal

pub returns : goal.returns
returns g c = λ key s shown a is_open.
    let near : key.seats ≤ a → ⊥ = λ far. is_open (c.names_beyond_the_seats_are_idle.ensures key s shown a far) in
    grind (arith, near)
