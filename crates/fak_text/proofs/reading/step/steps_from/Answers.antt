use Rattle.std.proofs.lemmas.Grind.{common_steps}
use Rattle.fak_text.proofs.Common.{step_from, next_index, step_of, steps_view, ◌≡◌, ◌++◌, ◌∷◌, [], rules, arith, err_from_is_err_and, map_push}
use Rattle.fak_text.proofs.Elements.{goes_on, ends, is_done}
use Rattle.fak_text.proofs.reading.step.steps_from.Goals as goal

pub returns-in_err-step-clause-gives : goal.returns-in_err-step-clause-gives
returns-in_err-step-clause-gives c = grind (arith, common_steps, err_from_is_err_and, ends, step_from, next_index, steps_view)

pub loop-value-preserved : goal.loop-value-preserved
loop-value-preserved c =
    let pushed : steps_view c.push.new.self.items ≡ steps_view c.loop-value.steps.items ++ step_of c.in_ok-step.step ∷ [] =
    rw c.in_ok-push.ensures.items (map_push _ c.loop-value.steps.items c.in_ok-step.step) in
    record {
      so_far = rw pushed (goes_on (step_from c.args.limits) next_index (steps_view c.loop-value.steps.items) c.args.values.now c.loop-value.index c.loop-value.value-index c.value-item.result (step_of c.in_ok-step.step) _ c.loop-value-test.true c.value-item.is c.in_ok-step.ensures c.loop-value.invariant.so_far);
      at = omega arith;
      size = search rules;
    }

pub returns-clause-gives : goal.returns-clause-gives
returns-clause-gives c = is_done (step_from c.args.limits) next_index (steps_view c.loop-value.steps.items) c.args.values.now c.loop-value.index c.loop-value.value-index _ c.loop-value-test.false c.loop-value.invariant.so_far
