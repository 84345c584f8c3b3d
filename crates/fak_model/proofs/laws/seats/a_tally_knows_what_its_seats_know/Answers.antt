use Rattle.fak_model.proofs.SeatWeights.{mine_one, mine_more, mine_known, mine_joined}
use Rattle.fak_model.proofs.laws.seats.a_tally_knows_what_its_seats_know.Goals as goal

pub returns-clause-one : goal.returns-clause-one
returns-clause-one g c = mine_one

pub returns-clause-more : goal.returns-clause-more
returns-clause-more g c = mine_more

pub returns-clause-known : goal.returns-clause-known
returns-clause-known g c = mine_known

pub returns-clause-joined : goal.returns-clause-joined
returns-clause-joined g c = mine_joined
