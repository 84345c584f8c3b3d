use Rattle.std.proofs.Common.{arith}
use Rattle.fak_text.specs.Script.{say, yield}
use Rattle.fak_callers.proofs.turns.a_text_ends_no_turn.Goals as goal

pub returns-clause-said : goal.returns-clause-said
returns-clause-said c script s t after text runs over =
    let same = c.only_a_yield_ends_a_turn_early.ensures.others script s t after (say text) runs over in
    absurd (cc (same))

pub returns-clause-yields : goal.returns-clause-yields
returns-clause-yields c script s t after made runs =
    (c.only_a_yield_ends_a_turn_early.ensures.yields script s t after runs, omega (arith, made, c.only_a_yield_ends_a_turn_early.ensures.counted script s t after yield runs))
