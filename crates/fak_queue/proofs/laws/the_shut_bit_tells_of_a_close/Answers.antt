use Rattle.fak_queue.proofs.Shutting.{shut_exactly}
use Rattle.fak_queue.proofs.laws.the_shut_bit_tells_of_a_close.Goals as goal

pub returns : goal.returns
returns g c = shut_exactly
