use Rattle.fak_channel_core.specs.SleeperMoves.{sleeper_opening}
use Rattle.fak_channel_core.proofs.SleeperRounds.{queue_runs}
use Rattle.fak_channel_core.proofs.laws.sleepers.the_queue_of_a_channel_is_reached.Goals as goal

pub returns : goal.returns
returns g c = λ n size schedule. queue_runs n size schedule sleeper_opening
