use Rattle.fak_channel_core.proofs.SleeperReached.{queue_goes}
use Rattle.fak_channel_core.proofs.laws.sleepers.a_queue_goes_its_own_way.Goals as goal

pub returns : goal.returns
returns g c = λ n size s v. queue_goes n size s v
