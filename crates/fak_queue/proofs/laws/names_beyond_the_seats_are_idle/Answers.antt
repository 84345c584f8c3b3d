use Rattle.fak_queue.proofs.laws.names_beyond_the_seats_are_idle.Goals as goal

pub returns : goal.returns
returns g c = λ key s shown a far. shown.reached.beyond a far
