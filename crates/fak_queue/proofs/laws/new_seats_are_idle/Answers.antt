use Rattle.fak_queue.proofs.Gathering.{fresh_idle}
use Rattle.fak_queue.proofs.laws.new_seats_are_idle.Goals as goal

pub returns : goal.returns
returns g c = λ object stint name count. fresh_idle object stint name count
