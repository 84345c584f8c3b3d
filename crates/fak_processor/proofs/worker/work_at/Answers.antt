use Rattle.fak_processor.proofs.worker.work_at.Goals as goal

pub returns-clause-general : goal.returns-clause-general
returns-clause-general g c = rw (c.into_seats.ensures.same, ← c.of-worker.ensures.seats) c.run_loop-done.ensures.general

pub returns-clause-asked : goal.returns-clause-asked
returns-clause-asked g c = rw (c.into_seats.ensures.same, ← c.of-worker.ensures.seats) c.run_loop-done.ensures.asked

pub returns-clause-spent : goal.returns-clause-spent
returns-clause-spent g c = rw c.into_seats.ensures.same c.run_loop-done.ensures.spent
