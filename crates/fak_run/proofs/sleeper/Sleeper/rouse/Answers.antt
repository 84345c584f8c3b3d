use Rattle.fak_run.proofs.Common.{refl}
use Rattle.fak_text.specs.Journal.{child_count}
use Rattle.fak_run.proofs.Fitting.{IsContext-unnoted}
use Rattle.fak_run.proofs.sleeper.Sleeper.rouse.Goals as goal

pub returns-clause-woken : goal.returns-clause-woken
returns-clause-woken g c = rw (← c.self.view_is) (c.self.inside.semaphore, c.self.invariant.before, c.self.invariant.has_note)

pub returns-clause-fits : goal.returns-clause-fits
returns-clause-fits g c =
    let x = c.self.inside.context in
    rw (← c.self.view_is) (IsContext-unnoted g.K.Run.script (child_count x.journal) c.self.inside.semaphore x (record { fits = c.slot-slot.ensures.fits; children_are = refl }) c.self.invariant).fits
