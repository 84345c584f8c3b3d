use Rattle.fak_queue.proofs.Common.{refl}
use Rattle.fak_queue.proofs.laws.examples.the_accounts_of_seats_are_judged.Goals as goal

pub returns-clause-owes : goal.returns-clause-owes
returns-clause-owes c = λ o. refl

pub returns-clause-pays : goal.returns-clause-pays
returns-clause-pays c = λ o. refl

pub returns-clause-early : goal.returns-clause-early
returns-clause-early c = λ o. refl

pub returns-clause-asleep : goal.returns-clause-asleep
returns-clause-asleep c = λ o. refl

pub returns-clause-tried : goal.returns-clause-tried
returns-clause-tried c = λ o. refl

pub returns-clause-woken : goal.returns-clause-woken
returns-clause-woken c = λ o. refl

pub returns-clause-once : goal.returns-clause-once
returns-clause-once c = λ o. refl
