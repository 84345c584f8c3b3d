use Rattle.fak_core.proofs.QueueRounds.{round_robin_long, round_robin_at}
use Rattle.fak_core.proofs.laws.progress.a_round_robin_steps_each_seat_once.Goals as goal

pub returns : goal.returns
returns g c = record { long = round_robin_long _; each = λ n s l. round_robin_at n s l }
