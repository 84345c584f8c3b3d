use Rattle.fak_queue.proofs.CallAccounts.{by_claim_out, by_empty, by_take}
use Rattle.fak_queue.proofs.laws.looks.a_deletion_changes_the_account.Goals as goal

pub returns-clause-claims : goal.returns-clause-claims
returns-clause-claims g c = λ size k old new keeps call. by_claim_out size old new keeps k call

pub returns-clause-empty : goal.returns-clause-empty
returns-clause-empty g c = λ size lower old new keeps call. by_empty size old new keeps lower call

pub returns-clause-takes : goal.returns-clause-takes
returns-clause-takes g c = λ size k x old new keeps call. by_take size old new keeps k x call
