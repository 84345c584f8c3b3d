use Rattle.fak_model.proofs.FileLaw.{files_fit}
use Rattle.fak_model.proofs.laws.file.amounts_held_in_a_file_table_fit.Goals as goal

pub returns : goal.returns
returns c = files_fit
