use Rattle.fak_processor.proofs.OnlyQueues.{shuts}
use Rattle.fak_processor.proofs.Asking.{looks_shut}
use Rattle.fak_processor.proofs.worker.entering.shut.Goals as goal

pub returns-clause-only : goal.returns-clause-only
returns-clause-only g c = λ o. shuts c.args.queue.now.size o c.shut.result c.shut.ensures.call

pub returns-clause-looks : goal.returns-clause-looks
returns-clause-looks g c = looks_shut c.args.queue.now.size c.args.seat.now c.shut.new.seat c.shut.result c.shut.ensures.call
