use Rattle.std.proofs.Common.{◌≡◌, is_none, is_ok, sym, rules}
use Rattle.serde_json.specs.View.{view}
use Rattle.fak_text.specs.declared.fault.Field.TheVariants.{Programs}
use Rattle.fak_text.specs.declared.fault.TextFault.TheVariants.{Range}
use Rattle.fak_places.specs.Named.{program_in}
use Rattle.fak_places.proofs.Programs.{is_right, no_program}
use Rattle.fak_places.proofs.script.is_right_program.Goals as goal

pub returns-in-Some : goal.returns-in-Some
returns-in-Some c =
    let right : is_none c.first_wrong_step.result ≡ is_ok (program_in c.args.limits (view c.args.program.now)) =
    is_right c.args.limits (view c.args.program.now) c.in-Some.steps.now c.first_wrong_step.result c.in-Some.ensures c.first_wrong_step.ensures in
    search (rules, right)

pub returns-in-None : goal.returns-in-None
returns-in-None c = sym (no_program c.args.limits (view c.args.program.now) (Range Programs) c.in-None.ensures)
