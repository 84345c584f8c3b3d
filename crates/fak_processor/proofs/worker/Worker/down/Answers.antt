use Rattle.fak_processor.proofs.Common.{rules, ap, sym, subst, ◌∙◌, ◌≡◌, down, Process, StandsAt, after_note, downed, GainsParked}
use Rattle.fak_run.specs.ListScheduler as lists
use Rattle.fak_processor.proofs.Stepping.{moves_to, moves_passed, moves_parked}
use Rattle.fak_processor.proofs.worker.Worker.down.Goals as goal

pub returns-in-Ok-None-clause-step : goal.returns-in-Ok-None-clause-step
returns-in-Ok-None-clause-step g c =
    let same : c.in_ok-sleeper.sleeper ≡ c.args.turn.process = c.in_ok-sleeper.ensures.same ∙ c.into_context.ensures in
    let parked = rw c.in-Ok-None.field-0-is at c.in-Ok-None.ensures.gains in
    record {
      moves = moves_parked c.args.n c.args.turn.process c.requires.range c.requires.turn.stands (subst (λ (x : Process). GainsParked g.K.Run.script c.args.n x c.args.self.now c.pass_or_park.new.self) same parked) c.in_ok-debit-in-Ok-None.ensures.gains;
      looks = search rules;
    }

pub returns-in-Ok-Some-clause-step : goal.returns-in-Ok-Some-clause-step
returns-in-Ok-Some-clause-step g c =
    let is_sleeper : c.in-Ok-Some.who ≡ c.in_ok-sleeper.sleeper = rw c.in-Ok-Some.field-0-is at c.in-Ok-Some.ensures.passed in
    let same : c.in-Ok-Some.who ≡ c.args.turn.process = is_sleeper ∙ (c.in_ok-sleeper.ensures.same ∙ c.into_context.ensures) in
    let passed = rw c.in-Ok-Some.field-0-is at c.in-Ok-Some.ensures.gains in
    let stands = subst (λ (x : Process). StandsAt g.K.Run.script x (down c.args.n)) (sym same) c.requires.turn.stands in
    record {
      moves = moves_to (after_note c.args.turn.process (downed c.args.n))
          (ap (λ (t : lists.Turn). t.process) c.after.ensures ∙ (c.rouse.ensures.done c.args.n stands ∙ ap (λ (x : Process). after_note x (downed c.args.n)) same))
          (moves_passed c.args.n c.args.turn.process c.made-made.ensures.fits c.requires.turn.stands passed);
      looks = search rules;
    }
