use Rattle.fak_model.proofs.CreditLaw.{every_history}
use Rattle.fak_model.proofs.laws.credit.every_credit_mark_is_lawful.Goals as goal

pub returns : goal.returns
returns c = every_history
