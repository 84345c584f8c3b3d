use Rattle.fak_queue.proofs.Accounts.{account_made}
use Rattle.fak_queue.proofs.laws.sleepers.a_call_owes_by_its_marks.Goals as goal

pub returns : goal.returns
returns g c = λ seats size notes kinds old new within makes. account_made seats size notes kinds old new within makes
