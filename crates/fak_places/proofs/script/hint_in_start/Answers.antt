use Rattle.std.proofs.Common.{◌≡◌, Some, is_ok, not, rules}
use Rattle.std.specs.List.{position}
use Rattle.serde_json.specs.View.{view}
use Rattle.fak_text.specs.ScriptText.{number_from}
use Rattle.fak_text.specs.declared.fault.Field.TheVariants.{Start}
use Rattle.fak_places.proofs.Spots.{in_start}
use Rattle.fak_places.proofs.script.hint_in_start.Goals as goal

pub returns : goal.returns
returns c =
    let first : position (λ v. not (is_ok (number_from Start c.count_of_key-programs.result 0 (view v)))) c.elements_of_key-values.result.now ≡ Some c.in_ok-index.index = search rules in
    in_start (view c.args.script.now) c.number_of_key-slots.result c.count_of_key-programs.result c.elements_of_key-values.result.now c.in_ok-index.index
    c.number_of_key-slots.ensures c.count_of_key-programs.ensures c.elements_of_key-values.ensures (search rules) first
