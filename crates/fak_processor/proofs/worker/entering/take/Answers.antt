use Rattle.fak_processor.proofs.OnlyQueues.{takes_first, finds_none}
use Rattle.fak_processor.proofs.Moving.{out_at_once}
use Rattle.fak_processor.proofs.Asking.{looks_out, looks_empty}
use Rattle.fak_processor.proofs.worker.entering.take.Goals as goal

pub returns-in-Ok-clause-only : goal.returns-in-Ok-clause-only
returns-in-Ok-clause-only g c = λ o. takes_first o _ c.in-Ok.item c.in-Ok.ensures.call.makes

pub returns-in-Err-Empty-clause-only : goal.returns-in-Err-Empty-clause-only
returns-in-Err-Empty-clause-only g c = λ o. let e = rw c.in-Err-Empty.field-0-is at c.in-Err-Empty.ensures.call in finds_none o e.1

pub returns-in-Ok-clause-grows : goal.returns-in-Ok-clause-grows
returns-in-Ok-clause-grows g c = out_at_once c.in-Ok.ensures.call

pub returns-in-Ok-clause-looks : goal.returns-in-Ok-clause-looks
returns-in-Ok-clause-looks g c = looks_out c.in-Ok.ensures.call

pub returns-in-Err-Empty-clause-looks : goal.returns-in-Err-Empty-clause-looks
returns-in-Err-Empty-clause-looks g c = let e = rw c.in-Err-Empty.field-0-is at c.in-Err-Empty.ensures.call in looks_empty e.1
