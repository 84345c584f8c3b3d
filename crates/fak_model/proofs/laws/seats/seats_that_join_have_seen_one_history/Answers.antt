use Rattle.fak_model.proofs.Seats.{one_begins, knows_both, whole_mine}
use Rattle.fak_model.proofs.laws.seats.seats_that_join_have_seen_one_history.Goals as goal

pub returns-clause-one : goal.returns-clause-one
returns-clause-one g c = one_begins

pub returns-clause-joined : goal.returns-clause-joined
returns-clause-joined g c = knows_both

pub returns-clause-whole : goal.returns-clause-whole
returns-clause-whole g c = whole_mine
