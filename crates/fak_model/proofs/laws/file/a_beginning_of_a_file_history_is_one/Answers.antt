use Rattle.fak_model.proofs.Common.{file_rules}
use Rattle.fak_model.proofs.Appending.{history_prefix}
use Rattle.fak_model.proofs.laws.file.a_beginning_of_a_file_history_is_one.Goals as goal

pub returns : goal.returns
returns c = λ k h rest. history_prefix (file_rules k) h rest
