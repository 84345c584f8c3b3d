use Rattle.fak_model.proofs.FileRest.{files_rest}
use Rattle.fak_model.proofs.laws.file.a_file_table_at_rest_is_free.Goals as goal

pub returns : goal.returns
returns c = files_rest
