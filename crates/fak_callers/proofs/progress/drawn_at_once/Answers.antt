use Rattle.std.proofs.Common.{arith}
use Rattle.fak_callers.proofs.progress.drawn_at_once.Goals as goal

pub returns : goal.returns
returns g c = λ size n schedule z more. omega (arith, c.few_seats_have_drawn.ensures size n schedule z, more)
