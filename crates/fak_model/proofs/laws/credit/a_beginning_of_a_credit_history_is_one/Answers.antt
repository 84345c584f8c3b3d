use Rattle.fak_model.proofs.Common.{credit_rules}
use Rattle.fak_model.proofs.Appending.{history_prefix}
use Rattle.fak_model.proofs.laws.credit.a_beginning_of_a_credit_history_is_one.Goals as goal

pub returns : goal.returns
returns c = λ h rest. history_prefix credit_rules h rest
