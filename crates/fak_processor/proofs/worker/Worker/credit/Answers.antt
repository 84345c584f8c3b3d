use Rattle.fak_processor.proofs.Calls.{grows_credit}
use Rattle.fak_processor.proofs.Moving.{gains_busy}
use Rattle.fak_processor.proofs.worker.Worker.credit.Goals as goal

pub returns-clause-gains : goal.returns-clause-gains
returns-clause-gains g c = rw (← c.self.view_is, ← c.seats.view_is) (gains_busy _ _ (grows_credit c.in-Ok.ensures.call))
