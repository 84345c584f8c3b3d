use Rattle.fak_queue.proofs.CallAccounts.{by_claim_in, by_closed, by_fill, by_full}
use Rattle.fak_queue.proofs.laws.looks.an_insertion_changes_the_account.Goals as goal

pub returns-clause-claims : goal.returns-clause-claims
returns-clause-claims g c = λ size k x old new keeps call. by_claim_in size old new keeps k x call

pub returns-clause-full : goal.returns-clause-full
returns-clause-full g c = λ size upper old new keeps call. by_full size old new keeps upper call

pub returns-clause-closed : goal.returns-clause-closed
returns-clause-closed g c = λ size old new keeps call. by_closed size old new keeps call

pub returns-clause-fills : goal.returns-clause-fills
returns-clause-fills g c = λ size k old new keeps call. by_fill size old new keeps k call
