use Rattle.fak_channel.proofs.Waiting.{found_set}
use Rattle.fak_channel.proofs.laws.an_end_that_sleeps_on_finds_its_bit_set.Goals as goal

pub returns : goal.returns
returns g c = λ channel w old new is moves. found_set channel old new w is moves
