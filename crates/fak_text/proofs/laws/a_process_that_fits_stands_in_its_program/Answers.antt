use Rattle.fak_text.proofs.Journals.{position_is_in_program}
use Rattle.fak_text.proofs.laws.a_process_that_fits_stands_in_its_program.Goals as goal

pub returns : goal.returns
returns c = position_is_in_program
