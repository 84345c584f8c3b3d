use Rattle.std.proofs.lemmas.Result.{MatchResult-weaker, on_err_weaker}
use Rattle.fak_processor.proofs.Common.{rules, ◌∙◌, ap}
use Rattle.fak_text.specs.Journal.{after_note, upped}
use Rattle.fak_run.specs.ListScheduler as lists
use Rattle.fak_processor.proofs.Stepping.{entry_of, credited_behind, looks_behind, moves_from, moves_to, moves_added, moves_woken, moves_enters}
use Rattle.fak_processor.proofs.worker.Worker.up.Goals as goal

pub returns-in-Ok-None-clause-step : goal.returns-in-Ok-None-clause-step
returns-in-Ok-None-clause-step g c =
    let raised = rw c.in-Ok-None.field-0-is at c.in-Ok-None.ensures.gains in
    record {
      moves = moves_from c.reserve_halted.ensures.same
          (moves_to (after_note c.args.turn.now.process (upped c.args.n)) (ap (λ (t : lists.Turn). t.process) c.in_ok-note.ensures.noted) (moves_added c.args.n c.args.turn.now.process c.note.ensures.fits c.requires.turn.stands raised));
      looks = search rules;
    }

pub returns-in-Ok-Some-clause-step : goal.returns-in-Ok-Some-clause-step
returns-in-Ok-Some-clause-step g c =
    let woken = rw c.in-Ok-Some.field-0-is at c.in-Ok-Some.ensures.gains in
    let entry = ap entry_of c.wake.ensures.same ∙ ap entry_of c.reserve_halted.ensures.same in
    MatchResult-weaker c.make_ready.result c.make_ready.ensures.step (λ _ ready. record {
      moves = moves_from c.reserve_halted.ensures.same
          (moves_to (after_note c.args.turn.now.process (upped c.args.n)) (ap (λ (t : lists.Turn). t.process) c.in_ok-note.ensures.noted)
          (moves_enters (after_note c.args.turn.now.process (upped c.args.n)) c.in-Ok-Some.context (moves_woken c.args.n c.args.turn.now.process c.in-Ok-Some.context c.requires.range c.note.ensures.fits c.requires.turn.stands woken ready.credited) ready.entered));
      looks = ready.looks ∙ looks_behind c.args.self.now c.wake.new.self entry;
    }) (λ _ spent. spent)

pub returns-in-Ok-Some-clause-credited : goal.returns-in-Ok-Some-clause-credited
returns-in-Ok-Some-clause-credited g c =
    on_err_weaker c.make_ready.result (credited_behind c.args.self.now c.wake.new.self c.make_ready.new.self (ap entry_of c.wake.ensures.same ∙ ap entry_of c.reserve_halted.ensures.same)) c.make_ready.ensures.credited
