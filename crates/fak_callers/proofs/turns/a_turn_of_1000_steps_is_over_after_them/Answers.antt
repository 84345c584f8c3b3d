use Rattle.std.proofs.Common.{◌≡◌, ◌∙◌, refl, ap, arith, slice_index}
use Rattle.fak_text.specs.Script.{up}
use Rattle.fak_run.specs.ListScheduler.{State, turn_over}
use Rattle.fak_callers.proofs.turns.a_turn_of_1000_steps_is_over_after_them.Goals as goal

pub returns-clause-goes_on : goal.returns-clause-goes_on
returns-clause-goes_on c script s t quantum made yielded stands none =
    let goes = c.each_turn_is_known.ensures.goes_on script s t (up 3) stands yielded (λ (is : t.made ≡ script.quantum). absurd (omega (arith, quantum, made, is))) in
    let ups = c.each_step_of_a_turn_is_known.ensures.upped script s t 3 (slice_index s.counts 3) none refl in
    ap (λ (state : State). state.running) (goes ∙ ups)

pub returns-clause-over : goal.returns-clause-over
returns-clause-over c script s t next quantum made stands unshut =
    let over = c.each_turn_is_known.ensures.quantum script s t next stands (omega (arith, quantum, made)) in
    over ∙ ap turn_over (c.each_turn_is_known.ensures.ready s t.process unshut)
