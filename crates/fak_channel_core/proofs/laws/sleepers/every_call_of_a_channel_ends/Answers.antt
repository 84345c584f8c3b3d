use Rattle.fak_channel_core.proofs.SleeperRounds.{every_call_ends}
use Rattle.fak_channel_core.proofs.laws.sleepers.every_call_of_a_channel_ends.Goals as goal

pub returns : goal.returns
returns g c = λ n size e schedule rounds z each more. every_call_ends n size e schedule rounds z each more
