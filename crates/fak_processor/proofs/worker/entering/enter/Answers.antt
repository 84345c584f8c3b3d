use Rattle.fak_processor.proofs.Moving.{in_after_full, shut_after_full}
use Rattle.fak_processor.proofs.Entering.{enters, bounces}
use Rattle.fak_processor.proofs.Asking.{looks_in, looks_closed}
use Rattle.fak_processor.proofs.worker.entering.enter.Goals as goal

pub returns-in-Ok-clause-only : goal.returns-in-Ok-clause-only
returns-in-Ok-clause-only g c = λ o. enters o c.in-Ok.ensures.call

pub returns-in-Err-Closed-clause-only : goal.returns-in-Err-Closed-clause-only
returns-in-Err-Closed-clause-only g c = λ o. let e = rw c.in-Err-Closed.field-0-is at c.in-Err-Closed.ensures.call in (e.0, bounces o e.1)

pub returns-in-Ok-clause-grows : goal.returns-in-Ok-clause-grows
returns-in-Ok-clause-grows g c = in_after_full c.in-Ok.ensures.call

pub returns-in-Err-Closed-clause-grows : goal.returns-in-Err-Closed-clause-grows
returns-in-Err-Closed-clause-grows g c = let e = rw c.in-Err-Closed.field-0-is at c.in-Err-Closed.ensures.call in shut_after_full e.1

pub returns-in-Ok-clause-looks : goal.returns-in-Ok-clause-looks
returns-in-Ok-clause-looks g c = looks_in c.in-Ok.ensures.call

pub returns-in-Err-Closed-clause-looks : goal.returns-in-Err-Closed-clause-looks
returns-in-Err-Closed-clause-looks g c = let e = rw c.in-Err-Closed.field-0-is at c.in-Err-Closed.ensures.call in looks_closed e.1
