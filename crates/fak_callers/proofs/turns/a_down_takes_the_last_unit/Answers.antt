use Rattle.std.proofs.Common.{◌∙◌, ℕ, false, List, ap, arith, slice_index, slice_set}
use Rattle.fak_text.specs.Journal.{downed}
use Rattle.fak_run.specs.SmallSteps.{on_turn, turn_after}
use Rattle.fak_callers.proofs.turns.a_down_takes_the_last_unit.Goals as goal

pub returns-clause-passes : goal.returns-clause-passes
returns-clause-passes c script s t one =
    c.each_step_of_a_turn_is_known.ensures.passed script s t 0 0 (ap (λ (counts : List ℕ). slice_index counts 0) one)
    ∙ ap (λ (counts : List ℕ). on_turn (record s { counts = slice_set counts 0 0 }) (turn_after t (downed 0) false)) one

pub returns-clause-no_birth : goal.returns-clause-no_birth
returns-clause-no_birth c script s t none = c.each_step_of_a_turn_is_known.ensures.no_birth script s t 5 (omega (arith, none))
