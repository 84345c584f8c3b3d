use Rattle.fak_sem.proofs.Common.{rules}
use Rattle.fak_sem.proofs.opening.opened_credit.Goals as goal

pub returns-in-Ok : goal.returns-in-Ok
returns-in-Ok c = search rules

pub returns-in-Err-BadSeats : goal.returns-in-Err-BadSeats
returns-in-Err-BadSeats c = search rules

pub returns-in-Err-BadStint : goal.returns-in-Err-BadStint
returns-in-Err-BadStint c = search rules

pub returns-in-Err-Memory : goal.returns-in-Err-Memory
returns-in-Err-Memory c = search rules
