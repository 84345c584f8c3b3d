use Rattle.fak_model.proofs.SeatWeights.{none_beyond, mine_same}
use Rattle.fak_model.proofs.laws.seats.a_seat_without_a_call_adds_nothing.Goals as goal

pub returns-clause-beyond : goal.returns-clause-beyond
returns-clause-beyond g c = none_beyond

pub returns-clause-mine : goal.returns-clause-mine
returns-clause-mine g c = mine_same
