use Rattle.fak_processor.proofs.Common.{rules, ◌∙◌}
use Rattle.fak_processor.proofs.Acting.{moves_ended}
use Rattle.fak_processor.proofs.worker.Worker.end.Goals as goal

pub returns-clause-step : goal.returns-clause-step
returns-clause-step g c =
    record { moves = rw (← c.self.view_is, ← c.seats.view_is) (moves_ended _ c.objects.invariant.1 c.slot.ensures.fits c.requires.over (c.new-slot.ensures ∙ c.slot.ensures.slot) c.in_ok-push.ensures.items c.in_ok-put.ensures.grows c.in_ok-debit.ensures.gains); looks = search rules }

pub returns-clause-alone : goal.returns-clause-alone
returns-clause-alone g c = search rules
