use Rattle.fak_callers.proofs.cells.a_slot_that_is_out_has_an_owner.Goals as goal

pub returns : goal.returns
returns g c key s shown cell low = (c.a_slot_is_out_while_its_cell_has_an_owner.ensures key s shown cell low).0
