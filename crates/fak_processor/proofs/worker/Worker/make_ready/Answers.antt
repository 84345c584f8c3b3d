use Rattle.std.proofs.lemmas.Result.{MatchResult-weaker}
use Rattle.fak_processor.proofs.Common.{rules, ◌∙◌, ap}
use Rattle.fak_processor.specs.Asking.{looks_of}
use Rattle.fak_processor.proofs.worker.Worker.make_ready.Goals as goal

pub returns-clause-step : goal.returns-clause-step
returns-clause-step g c =
    let ready = ap (λ p. looks_of p.ready) c.credit.ensures.same in
    MatchResult-weaker c.enter_ready.result c.enter_ready.ensures.step (λ _ entered. record { between = c.credit.new.self; credited = c.in_ok-credit.ensures.gains; entered = entered.moves; looks = entered.looks ∙ ready }) (λ _ spent. spent)

pub returns-clause-alone : goal.returns-clause-alone
returns-clause-alone g c = search rules

pub returns-clause-credited : goal.returns-clause-credited
returns-clause-credited g c = search rules
