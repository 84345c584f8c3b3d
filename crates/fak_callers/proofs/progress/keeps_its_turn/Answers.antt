use Rattle.fak_callers.proofs.progress.keeps_its_turn.Goals as goal

pub returns : goal.returns
returns g c = λ size schedule s t z other moves stays. c.a_turn_that_has_come_stays.ensures size schedule s t z other moves stays
