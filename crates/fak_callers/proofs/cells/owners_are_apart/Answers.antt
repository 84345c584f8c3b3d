use Rattle.fak_callers.proofs.cells.owners_are_apart.Goals as goal

pub returns : goal.returns
returns g c key s shown a b cell apart of_a of_b = apart (c.a_running_cell_has_one_owner.ensures key s shown a b cell of_a of_b)
