use Rattle.fak_queue.proofs.CallAccounts.{by_look, by_shut, by_worn}
use Rattle.fak_queue.proofs.laws.looks.other_calls_change_the_account.Goals as goal

pub returns-clause-shuts : goal.returns-clause-shuts
returns-clause-shuts g c = λ size first old new keeps call. by_shut size old new keeps first call

pub returns-clause-observes : goal.returns-clause-observes
returns-clause-observes g c = λ size old new keeps call. by_look size old new keeps call

pub returns-clause-worn : goal.returns-clause-worn
returns-clause-worn g c = λ size old new keeps call. by_worn size old new keeps call
