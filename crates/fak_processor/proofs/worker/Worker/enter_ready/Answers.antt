use Rattle.fak_processor.proofs.Common.{rules, ◌∙◌, ap, [], ◌∷◌, ◌++◌, List, ◌≡◌}
use Rattle.fak_text.specs.Journal.{Process}
use Rattle.fak_processor.proofs.Acting.{moves_entered, moves_halted}
use Rattle.fak_processor.proofs.worker.Worker.enter_ready.Goals as goal

pub returns-in-Ok-None-clause-step : goal.returns-in-Ok-None-clause-step
returns-in-Ok-None-clause-step g c =
    let e = rw c.in-Ok-None.field-0-is at c.in-Ok-None.ensures.grows in
    record { moves = rw (← c.self.view_is, ← c.seats.view_is) (moves_entered _ c.objects.invariant.1 c.in_ok-reserve.ensures.items e); looks = search rules }

pub returns-in-Ok-Some-clause-step : goal.returns-in-Ok-Some-clause-step
returns-in-Ok-Some-clause-step g c =
    let e = rw c.in-Ok-Some.field-0-is at c.in-Ok-Some.ensures.grows in let same : c.in-Ok-Some.back ≡ c.args.context = rw c.in-Ok-Some.field-0-is at c.in-Ok-Some.ensures.same in
    record {
      moves = rw (← c.self.view_is, ← c.seats.view_is) (moves_halted _ c.objects.invariant.1 c.slot-slot.ensures.fits
          (c.in_ok-push-in-Ok-Some.ensures.items ∙ (ap (λ (l : List Process). l ++ c.in-Ok-Some.back ∷ []) c.in_ok-reserve.ensures.items ∙ ap (λ (b : Process). c.seats.inside.halted.items ++ b ∷ []) same)) e c.in_ok-debit-in-Ok-Some.ensures.gains);
      looks = search rules;
    }

pub returns-in-Ok-Some-clause-alone : goal.returns-in-Ok-Some-clause-alone
returns-in-Ok-Some-clause-alone g c = search rules
