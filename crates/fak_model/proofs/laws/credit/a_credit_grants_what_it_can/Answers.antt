use Rattle.fak_model.proofs.CreditLaw.{credit_grants}
use Rattle.fak_model.proofs.laws.credit.a_credit_grants_what_it_can.Goals as goal

pub returns : goal.returns
returns c = credit_grants
