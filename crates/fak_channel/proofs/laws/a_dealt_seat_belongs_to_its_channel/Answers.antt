use Rattle.fak_channel.proofs.Deals.{fresh_is_of}
use Rattle.fak_channel.proofs.laws.a_dealt_seat_belongs_to_its_channel.Goals as goal

pub returns : goal.returns
returns g c = λ channel stint name left undealt are. fresh_is_of channel are.fresh stint name
