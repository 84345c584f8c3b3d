use Rattle.fak_callers.proofs.cells.a_set_bit_has_its_close.Goals as goal

pub returns : goal.returns
returns g c key s shown = (c.the_shut_bit_tells_of_a_close.ensures key s shown).0
