use Rattle.fak_run.proofs.sleeper.Sleeper.rest.Goals as goal

pub returns-clause-stands : goal.returns-clause-stands
returns-clause-stands g c = rw (← c.self.view_is) (c.self.inside.semaphore, c.self.invariant.before)
