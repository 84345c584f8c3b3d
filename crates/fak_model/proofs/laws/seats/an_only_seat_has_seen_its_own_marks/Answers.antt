use Rattle.fak_model.proofs.SeatWeights.{all_mine, only_grows, only_before}
use Rattle.fak_model.proofs.laws.seats.an_only_seat_has_seen_its_own_marks.Goals as goal

pub returns-clause-mine : goal.returns-clause-mine
returns-clause-mine g c = all_mine

pub returns-clause-grows : goal.returns-clause-grows
returns-clause-grows g c = only_grows

pub returns-clause-before : goal.returns-clause-before
returns-clause-before g c = λ seat_of old rest m. only_before seat_of old m rest
