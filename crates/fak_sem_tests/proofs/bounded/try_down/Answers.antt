use Rattle.fak_sem_tests.proofs.bounded.try_down.Goals as goal

pub returns-then-try_park-clause-call : goal.returns-then-try_park-clause-call
returns-then-try_park-clause-call g c = c.if-try_park.ensures.call c.args.seat.now.seat c.args.who c.loop.invariant.2
