use Rattle.std.proofs.Common.{◌≡◌, Some, is_ok, not, rules}
use Rattle.std.specs.List.{position}
use Rattle.serde_json.specs.View.{view}
use Rattle.fak_places.specs.Named.{step_in}
use Rattle.fak_places.proofs.Spots.{in_program}
use Rattle.fak_places.proofs.script.hint_in_program.Goals as goal

pub returns : goal.returns
returns c =
    let first : position (λ v. not (is_ok (step_in c.args.limits (view v)))) c.in-Some.steps.now ≡ Some c.in_ok-step.step = search rules in
    in_program c.args.limits c.args.index (view c.args.program.now) c.in-Some.steps.now c.in_ok-step.step _ _ c.in-Some.ensures first c.in_step.ensures
