use Rattle.fak_queue.proofs.CallAccounts.{other_duty, own_duty, same_checks}
use Rattle.fak_queue.proofs.laws.looks.a_step_changes_its_own_role.Goals as goal

pub returns-clause-own : goal.returns-clause-own
returns-clause-own c = own_duty

pub returns-clause-other : goal.returns-clause-other
returns-clause-other c = other_duty

pub returns-clause-checks : goal.returns-clause-checks
returns-clause-checks c = same_checks
