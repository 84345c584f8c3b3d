use Rattle.fak_core.proofs.Common.{common_steps, arith, reached}
use Rattle.fak_core.proofs.QueueReached.{kept_reached}
use Rattle.fak_core.proofs.QueueRounds.{comes_to_rest, round_robin_rests}
use Rattle.fak_core.proofs.laws.progress.a_queue_comes_to_rest.Goals as goal

pub returns : goal.returns
returns g c = grind (arith, common_steps, comes_to_rest, reached, kept_reached, round_robin_rests)
