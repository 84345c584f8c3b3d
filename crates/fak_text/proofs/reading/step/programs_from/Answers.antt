use Rattle.std.proofs.lemmas.Grind.{common_steps}
use Rattle.fak_text.proofs.Common.{◌≡◌, ℕ, ◌+◌, ◌≤◌, ◌++◌, ◌∷◌, [], length, vec_len, rules, arith, ap, ◌∙◌, err_from_is_err_and, map_push, length-map, step_of, steps_view, programs_of}
use Rattle.fak_text.specs.StepText.{program_from, index_after}
use Rattle.fak_text.proofs.Elements.{goes_on, ends, is_done}
use Rattle.fak_text.proofs.reading.step.programs_from.Goals as goal

pub returns-in_err-program : goal.returns-in_err-program
returns-in_err-program c = grind (arith, common_steps, err_from_is_err_and, ends, program_from, index_after, programs_of)

pub loop-value-preserved : goal.loop-value-preserved
loop-value-preserved c =
    let program = c.in_ok-program.program in
    let pushed : programs_of c.push.new.self.items ≡ programs_of c.loop-value.programs.items ++ steps_view program.items ∷ [] =
    rw c.in_ok-push.ensures.items (map_push _ c.loop-value.programs.items program) in
    let same : length program.items ≡ c.len.result = search rules in
    let many : length (steps_view program.items) ≡ c.len.result = length-map program.items step_of ∙ same in
    let moved : c.loop-value.index + length (steps_view program.items) ≡ c.loop-value.index + c.len.result = ap (λ (n : ℕ). c.loop-value.index + n) many in
    let few : vec_len program ≤ 1000 = c.in_ok-program.ensures.few in
    record {
      so_far = rw (pushed, ← moved) (goes_on (program_from c.args.limits) index_after (programs_of c.loop-value.programs.items) c.args.values.now c.loop-value.index c.loop-value.value-index c.value-item.result (steps_view program.items) _ c.loop-value-test.true c.value-item.is c.in_ok-program.ensures.gives c.loop-value.invariant.so_far);
      at = omega arith;
    }

pub returns : goal.returns
returns c = is_done (program_from c.args.limits) index_after (programs_of c.loop-value.programs.items) c.args.values.now c.loop-value.index c.loop-value.value-index _ c.loop-value-test.false c.loop-value.invariant.so_far
