use Rattle.fak_processor.proofs.OnlyCounts.{gives_back}
use Rattle.fak_processor.proofs.Calls.{grows_room}
use Rattle.fak_processor.proofs.Moving.{gains_births}
use Rattle.fak_processor.proofs.Machines.{birth_given}
use Rattle.fak_processor.proofs.worker.Worker.give_birth_back.Goals as goal

pub returns-clause-alone : goal.returns-clause-alone
returns-clause-alone g c = rw (← c.self.view_is, ← c.seats.view_is) (λ alone. birth_given _ alone (gives_back alone.births c.release.ensures.call c.release.ensures.held))

pub returns-clause-gains : goal.returns-clause-gains
returns-clause-gains g c =
    rw (← c.self.view_is, ← c.seats.view_is) (gains_births _ _ c.objects.invariant.1.births (grows_room c.release.ensures.call))
