use Rattle.fak_callers.proofs.schedules.cells_apart.Goals as goal

pub returns : goal.returns
returns g c = λ size schedule s t k z other a b. other (c.a_cell_has_one_owner.ensures size schedule s t k z a b)
