use Rattle.fak_sem_tests.proofs.bounded.try_up.Goals as goal

pub returns-in-Some-clause-call : goal.returns-in-Some-clause-call
returns-in-Some-clause-call g c = c.in-Some.ensures.call c.args.seat.now.seat c.loop.invariant.2
