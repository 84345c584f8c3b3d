use Rattle.fak_channel.proofs.Trying.{moved_awake}
use Rattle.fak_channel.proofs.laws.a_try_sets_no_bit.Goals as goal

pub returns : goal.returns
returns g c = λ channel old new s S moves is_try. moved_awake channel old new is_try S s moves
