use Rattle.fak_processor.proofs.worker.begin_at.Goals as goal

pub returns-clause-spent : goal.returns-clause-spent
returns-clause-spent g c = rw c.into_seats.ensures.same c.begin-begun.ensures.spent
