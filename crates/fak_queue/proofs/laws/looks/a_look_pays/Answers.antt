use Rattle.fak_queue.proofs.Common.{refl}
use Rattle.fak_queue.proofs.CallAccounts.{passed_now, passed_still, passes_them, pays_or_not}
use Rattle.fak_queue.proofs.laws.looks.a_look_pays.Goals as goal

pub returns-clause-wakes : goal.returns-clause-wakes
returns-clause-wakes c = λ n k g. (refl, refl)

pub returns-clause-passes : goal.returns-clause-passes
returns-clause-passes c = λ n w g all few. passes_them n w g all few

pub returns-clause-passed : goal.returns-clause-passed
returns-clause-passed c = λ n w g. passed_now n w g

pub returns-clause-still : goal.returns-clause-still
returns-clause-still c = λ n w v g e. passed_still n w v g e

pub returns-clause-part : goal.returns-clause-part
returns-clause-part c = λ n w g. pays_or_not n w g

pub returns-clause-stage : goal.returns-clause-stage
returns-clause-stage c = λ n w g. refl
